use Rattle.ne_laws.proofs.sets.NEBTreeSetNonEmptySet.add.Goals as goal
use Rattle.std.proofs.Common.{◌≡◌, not, is_some, IfOk, OnOk}
use Rattle.std.specs.List.{find}
use Rattle.std.specs.Ordering.{eq_by_cmp}
use Rattle.std.proofs.lemmas.Cmp.{eq_by_cmp_equiv}
use Rattle.ne_laws.specs.Sets.{Adds}
use Rattle.ne_laws.proofs.ByEquality.{by_eq, is_set}
use Rattle.ne_laws.proofs.SetItems.{says_found, tree_adds}

pub returns-clause-added : goal.returns-clause-added
returns-clause-added g c =
    by_eq g.T.PartialEq.eq g.T.Ord.cmp g.met.T.Ord.matches_eq
    (λ e. IfOk c.insert.result
    (λ added. added ≡ not (is_some (find (e c.args.x) c.args.self.now.keys))))
    (says_found (eq_by_cmp g.T.Ord.cmp c.args.x) c.args.self.now.keys c.insert.result
    c.insert.ensures.added)

pub returns-clause-adds : goal.returns-clause-adds
returns-clause-adds g c =
    by_eq g.T.PartialEq.eq g.T.Ord.cmp g.met.T.Ord.matches_eq
    (λ e. OnOk c.insert.result (Adds e c.args.self.now.keys c.args.x c.insert.new.self.keys))
    (tree_adds g.T.Ord.cmp (eq_by_cmp_equiv g.met.T.Ord.total) c.args.x c.args.self.now.keys
    c.insert.new.self.keys c.insert.result c.insert.ensures.added c.insert.ensures.keys
    c.insert.ensures.kept c.insert.ensures.len)

pub returns-clause-set : goal.returns-clause-set
returns-clause-set g c =
    is_set g.T.PartialEq.eq g.T.Ord.cmp g.met.T.Ord.matches_eq c.insert.new.self
    c.insert.ensures.valid.1 c.insert.ensures.valid.0
