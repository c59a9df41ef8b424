use Rattle.ne_iter.proofs.iter.non_empty.NonEmptyIterator.nth.Goals as goal
use Rattle.std.specs.Prelude.{◌≡◌, slice_get}
use Rattle.std.specs.Option.{option_map}
use Rattle.ne_iter.proofs.Consumers.{views_nth}
use Rattle.ne_iter.proofs.SourceLists.{each_view}

pub returns-clause-lists : goal.returns-clause-lists
returns-clause-lists g c = each_view
    (λ view xs. option_map view.of c.nth.result ≡ slice_get xs c.args.n)
    g.Self.NonEmptyIterator.item_view (λ view xs known.
    views_nth g.Self.IntoIterator.into_iter_gives g.Self.IntoIter.Iterator.next_gives c.args.self
    view.of xs known c.into_iter.result c.nth.new.self c.into_iter.ensures.into_iter_gives c.args.n
    c.nth.result c.nth.ensures.ran)
