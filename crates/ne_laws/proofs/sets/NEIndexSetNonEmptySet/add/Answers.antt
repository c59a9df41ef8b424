use Rattle.ne_laws.proofs.sets.NEIndexSetNonEmptySet.add.Goals as goal
use Rattle.ne_laws.proofs.SetItems.{indexed_adds, says_found}

pub returns-clause-added : goal.returns-clause-added
returns-clause-added g c =
    says_found (g.T.PartialEq.eq c.args.x) c.args.self.now.keys c.insert.result
    c.insert.ensures.added

pub returns-clause-adds : goal.returns-clause-adds
returns-clause-adds g c =
    indexed_adds g.met.T.Eq.laws c.args.x c.args.self.now.keys c.insert.new.self.keys
    c.insert.result c.insert.ensures.valid.1 c.insert.ensures.added c.insert.ensures.new_last
    c.insert.ensures.kept c.insert.ensures.len
