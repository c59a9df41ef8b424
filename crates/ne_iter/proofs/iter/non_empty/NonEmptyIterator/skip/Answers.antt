use Rattle.ne_iter.proofs.iter.non_empty.NonEmptyIterator.skip.Goals as goal
use Rattle.std.proofs.Common.{subst, sym}
use Rattle.std.specs.Prelude.{drop}
use Rattle.std.specs.Iterator.Adapters.{skip_steps}
use Rattle.ne_iter.specs.SourceLists.{StdYields}
use Rattle.ne_iter.proofs.Skip.{IsSkipped-from_steps, skip_view}
use Rattle.ne_iter.proofs.SourceLists.{std_yields, each_view}

pub returns-clause-gives : goal.returns-clause-gives
returns-clause-gives g c = IsSkipped-from_steps g.Self.IntoIter.Iterator.next_gives
    g.Self.IntoIterator.into_iter_gives c.args.self c.args.n c.skip.result
    (subst (g.Self.IntoIterator.into_iter_gives c.args.self) (sym c.skip.ensures.source)
    c.into_iter.ensures.into_iter_gives) c.skip.ensures.count

pub returns-clause-lists : goal.returns-clause-lists
returns-clause-lists g c = each_view (λ view xs. StdYields
    (skip_steps g.Self.IntoIter.Iterator.next_gives) view (drop c.args.n xs) c.skip.result)
    g.Self.NonEmptyIterator.item_view (λ view xs known.
    std_yields view c.skip.result (drop c.args.n xs)
    (skip_view c.args.n (returns-clause-gives g c) view.of xs known))
