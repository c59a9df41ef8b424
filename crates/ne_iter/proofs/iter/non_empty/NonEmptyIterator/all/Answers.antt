use Rattle.ne_iter.proofs.iter.non_empty.NonEmptyIterator.all.Goals as goal
use Rattle.std.specs.Prelude.{◌≡◌, Bool}
use Rattle.std.specs.Iterator.{ActsAs}
use Rattle.std.specs.List.{list_all}
use Rattle.ne_iter.proofs.Consumers.{views_all}
use Rattle.ne_iter.proofs.SourceLists.{each_view}

pub returns-clause-lists : goal.returns-clause-lists
returns-clause-lists g c = each_view (λ view xs. (test : view.Target → Bool)
    → ActsAs g.F.FnMut c.args.f (λ x. test (view.of x)) → c.all.result ≡ list_all test xs)
    g.Self.NonEmptyIterator.item_view (λ view xs known test acts.
    views_all g.Self.IntoIterator.into_iter_gives g.Self.IntoIter.Iterator.next_gives c.args.self
    view.of xs known c.into_iter.result c.all.new.self c.into_iter.ensures.into_iter_gives test
    c.args.f g.F.FnMut acts c.all.result c.all.ensures.ran)
