use Rattle.ne_iter.proofs.iter.best.best.Given as goal
use Rattle.std.specs.List.{FoldsTo}
use Rattle.ne_iter.specs.Consumers.{KeepsBetter}

abbrev pub invariant-loop-x : goal.invariant-loop-x
invariant-loop-x g l =
    FoldsTo (KeepsBetter (λ y. y) g.F.Fn l.better) l.initial.best l.yielded l.best
