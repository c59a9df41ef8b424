use Rattle.std.specs.Prelude.{◌≡◌, ◌≤◌, filter, length, ltb, take}
use Rattle.user_manual.proofs.loops.how_many_small.Given as goal

abbrev pub invariant-loop-x : goal.invariant-loop-x
invariant-loop-x l = (l.count ≡ length (filter (λ x. ltb x 10) (take l.x-index l.all)))
    × (l.count ≤ l.x-index)
