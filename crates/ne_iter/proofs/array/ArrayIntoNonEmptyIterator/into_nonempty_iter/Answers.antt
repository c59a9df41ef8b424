use Rattle.ne_iter.proofs.array.ArrayIntoNonEmptyIterator.into_nonempty_iter.Goals as goal
use Rattle.std.proofs.Common.{refl}
use Rattle.ne_iter.specs.Arrays.{array_gives}

pub returns : goal.returns
returns g c = record { into_nonempty_iter_gives = (refl, array_gives _ _ _ (λ it made. made.0.0)) }
