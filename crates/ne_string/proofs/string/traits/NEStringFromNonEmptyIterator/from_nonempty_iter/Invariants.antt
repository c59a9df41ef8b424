-- The first text has the others so far after it.
use Rattle.std.proofs.Common.{◌≡◌, ◌++◌}
use Rattle.std.specs.List.{flat_map}
use Rattle.ne_string.proofs.string.traits.NEStringFromNonEmptyIterator.from_nonempty_iter.Given
    as goal

abbrev pub invariant-loop-text : goal.invariant-loop-text
invariant-loop-text g l = l.made ≡ l.initial.made ++ flat_map (λ x. x) l.yielded
