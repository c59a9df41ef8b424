use Rattle.ne_iter.proofs.iter.non_empty.NonEmptyIterator.find.Goals as goal
use Rattle.std.specs.Prelude.{◌≡◌, Bool}
use Rattle.std.specs.Iterator.{ActsAsAt}
use Rattle.std.specs.List.{find}
use Rattle.std.specs.Option.{option_map}
use Rattle.ne_iter.proofs.Consumers.{views_first}
use Rattle.ne_iter.proofs.SourceLists.{each_view}

pub returns-clause-lists : goal.returns-clause-lists
returns-clause-lists g c = each_view (λ view xs. (test : view.Target → Bool)
    → ActsAsAt g.P.FnMut c.args.predicate (λ x. test (view.of x))
    → option_map view.of c.find.result ≡ find test xs)
    g.Self.NonEmptyIterator.item_view (λ view xs known test acts.
    views_first g.Self.IntoIterator.into_iter_gives g.Self.IntoIter.Iterator.next_gives c.args.self
    view.of xs known c.into_iter.result c.find.new.self c.into_iter.ensures.into_iter_gives test
    c.args.predicate g.P.FnMut acts c.find.result c.find.ensures.ran)
