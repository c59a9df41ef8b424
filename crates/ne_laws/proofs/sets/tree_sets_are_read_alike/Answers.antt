use Rattle.ne_laws.proofs.sets.tree_sets_are_read_alike.Goals as goal
use Rattle.std.proofs.Common.{◌≡◌, is_some, refl, sym}
use Rattle.std.specs.BTreeSet.{contains, get}
use Rattle.std.specs.List.{find}
use Rattle.std.specs.Ordering.{eq_by_cmp}
use Rattle.ne_laws.proofs.ByEquality.{by_eq}
use Rattle.ne_laws.proofs.SetItems.{is_found}

pub returns-clause-item : goal.returns-clause-item
returns-clause-item g c = λ s q. by_eq g.T.PartialEq.eq g.T.Ord.cmp g.met.T.Ord.matches_eq
    (λ e. get g.T.Ord.cmp s q ≡ find (e q) s.keys) refl

pub returns-clause-member : goal.returns-clause-member
returns-clause-member g c = λ s q. by_eq g.T.PartialEq.eq g.T.Ord.cmp g.met.T.Ord.matches_eq
    (λ e. contains g.T.Ord.cmp s q ≡ is_some (find (e q) s.keys))
    (sym (is_found (eq_by_cmp g.T.Ord.cmp q) s.keys))
