use Rattle.ne_iter.proofs.iter.non_empty.NonEmptyIterator.partition.Given as goal
use Rattle.ne_iter.proofs.Parted.{PartedSoFar}

abbrev pub invariant-loop-x : goal.invariant-loop-x
invariant-loop-x g l = PartedSoFar g.P.FnMut l.initial.predicate l.yielded l.passed.items
    l.others.items l.predicate
