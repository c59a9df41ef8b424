use Rattle.ne_laws.proofs.sets.NEBTreeSetNonEmptySet.has.Goals as goal
use Rattle.std.proofs.Common.{◌≡◌, ◌∙◌, is_some, sym}
use Rattle.std.specs.List.{find}
use Rattle.std.specs.Ordering.{eq_by_cmp}
use Rattle.ne_laws.proofs.ByEquality.{by_eq}
use Rattle.ne_laws.proofs.SetItems.{is_found}

pub returns : goal.returns
returns g c =
    by_eq g.T.PartialEq.eq g.T.Ord.cmp g.met.T.Ord.matches_eq
    (λ e. c.contains.result ≡ is_some (find (e c.args.x.now) c.args.self.now.keys))
    (c.contains.ensures
    ∙ sym (is_found (eq_by_cmp g.T.Ord.cmp c.args.x.now) c.args.self.now.keys))
