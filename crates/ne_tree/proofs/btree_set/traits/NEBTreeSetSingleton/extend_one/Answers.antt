use Rattle.ne_tree.proofs.btree_set.traits.NEBTreeSetSingleton.extend_one.Goals as goal
use Rattle.std.proofs.Common.{rules}
use Rattle.ne_tree.proofs.TreeInserts.{set_of-put}

pub returns-clause-added : goal.returns-clause-added
returns-clause-added g c = λ xs h.
    set_of-put g.met.T.Ord.total g.met.T.Ord.matches_eq xs c.args.self.now c.insert.new.self
    c.args.item c.insert.ensures.valid.1 (search rules) h.0
