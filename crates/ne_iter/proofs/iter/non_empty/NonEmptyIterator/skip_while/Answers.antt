use Rattle.ne_iter.proofs.iter.non_empty.NonEmptyIterator.skip_while.Goals as goal
use Rattle.std.proofs.Common.{subst, sym, refl}
use Rattle.std.specs.Prelude.{drop, Bool}
use Rattle.std.specs.List.{prefix_len}
use Rattle.std.specs.Iterator.{ActsAsAt}
use Rattle.std.specs.Iterator.Adapters.{skip_while_steps}
use Rattle.ne_vec.specs.Lists.{Naming}
use Rattle.ne_iter.proofs.Skip.{IsSkippedWhile-from_steps, skip_while_view}
use Rattle.ne_iter.proofs.SourceLists.{each_kept}

pub returns-clause-gives : goal.returns-clause-gives
returns-clause-gives g c = IsSkippedWhile-from_steps g.Self.IntoIter.Iterator.next_gives g.P.FnMut
    g.Self.IntoIterator.into_iter_gives c.args.self c.args.pred c.skip_while.result
    (subst (g.Self.IntoIterator.into_iter_gives c.args.self) (sym c.skip_while.ensures.source)
    c.into_iter.ensures.into_iter_gives) c.skip_while.ensures.closure
    c.skip_while.ensures.done_skipping

pub returns-clause-lists : goal.returns-clause-lists
returns-clause-lists g c = each_kept
    (skip_while_steps g.Self.IntoIter.Iterator.next_gives g.P.FnMut) c.skip_while.result
    (λ view xs gives.
    (test : view.Target → Bool) → ActsAsAt g.P.FnMut c.args.pred (λ x. test (view.of x))
    → Naming (prefix_len test xs) (λ n. gives (drop n xs))) g.Self.NonEmptyIterator.item_view
    (λ view xs known gives given test acts. (
      refl,
      given (drop (prefix_len test xs) xs) (skip_while_view view.of test xs acts known
          (returns-clause-gives g c)),
    ))
