use Rattle.ne_iter.proofs.iter.non_empty.NonEmptyIterator.filter.Goals as goal
use Rattle.std.proofs.Common.{subst, sym, refl}
use Rattle.std.specs.Prelude.{filter, Bool}
use Rattle.std.specs.Iterator.{ActsAsAt}
use Rattle.std.specs.Iterator.Adapters.{filter_steps}
use Rattle.ne_vec.specs.Lists.{Naming}
use Rattle.ne_iter.proofs.Filter.{IsFiltered-from_steps, filter_view}
use Rattle.ne_iter.proofs.SourceLists.{each_kept}

pub returns-clause-gives : goal.returns-clause-gives
returns-clause-gives g c = IsFiltered-from_steps g.Self.IntoIter.Iterator.next_gives g.P.FnMut
    g.Self.IntoIterator.into_iter_gives c.args.self c.args.predicate c.filter.result
    (subst (g.Self.IntoIterator.into_iter_gives c.args.self) (sym c.filter.ensures.source)
    c.into_iter.ensures.into_iter_gives) c.filter.ensures.closure

pub returns-clause-lists : goal.returns-clause-lists
returns-clause-lists g c = each_kept
    (filter_steps g.Self.IntoIter.Iterator.next_gives g.P.FnMut) c.filter.result (λ view xs gives.
    (test : view.Target → Bool) → ActsAsAt g.P.FnMut c.args.predicate (λ x. test (view.of x))
    → Naming (filter test xs) gives) g.Self.NonEmptyIterator.item_view
    (λ view xs known gives given test acts. (
      refl,
      given (filter test xs) (filter_view view.of test xs acts known (returns-clause-gives g c)),
    ))
