use Rattle.ne_iter.proofs.iter.sources.AnyIntoNonEmptyIterator.into_nonempty_iter.Goals as goal
use Rattle.std.proofs.Common.{refl}
use Rattle.ne_iter.specs.SourceLaws.{keeps_lists}

pub returns : goal.returns
returns g c =
    record { into_nonempty_iter_gives = (refl, keeps_lists _ _ g.S.NonEmptyIterator.item_view _) }
