use Rattle.ne_iter.proofs.iter.non_empty.NonEmptyIterator.take_while.Goals as goal
use Rattle.std.proofs.Common.{subst, sym, refl}
use Rattle.std.specs.List.{take_while}
use Rattle.std.specs.Prelude.{Bool}
use Rattle.std.specs.Iterator.{ActsAsAt}
use Rattle.std.specs.Iterator.Adapters.{take_while_steps}
use Rattle.ne_vec.specs.Lists.{Naming}
use Rattle.ne_iter.proofs.TakeWhile.{IsTakenWhile-from_steps, take_while_view}
use Rattle.ne_iter.proofs.SourceLists.{each_kept}

pub returns-clause-gives : goal.returns-clause-gives
returns-clause-gives g c = IsTakenWhile-from_steps g.Self.IntoIter.Iterator.next_gives g.P.FnMut
    g.Self.IntoIterator.into_iter_gives c.args.self c.args.pred c.take_while.result
    (subst (g.Self.IntoIterator.into_iter_gives c.args.self) (sym c.take_while.ensures.source)
    c.into_iter.ensures.into_iter_gives) c.take_while.ensures.closure c.take_while.ensures.done

pub returns-clause-lists : goal.returns-clause-lists
returns-clause-lists g c = each_kept
    (take_while_steps g.Self.IntoIter.Iterator.next_gives g.P.FnMut) c.take_while.result
    (λ view xs gives.
    (test : view.Target → Bool) → ActsAsAt g.P.FnMut c.args.pred (λ x. test (view.of x))
    → Naming (take_while test xs) gives) g.Self.NonEmptyIterator.item_view
    (λ view xs known gives given test acts. (
      refl,
      given (take_while test xs) (take_while_view view.of test xs acts known
          (returns-clause-gives g c)),
    ))
