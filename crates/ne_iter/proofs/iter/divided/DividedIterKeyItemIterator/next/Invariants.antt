use Rattle.ne_iter.proofs.iter.divided.DividedIterKeyItemIterator.next.Given as goal
use Rattle.std.proofs.Common.{◌≡◌, ◌+◌, ◌≤◌, List}
use Rattle.std.specs.Iterator.{size, IsFinite}
use Rattle.ne_iter.specs.GroupingRuns.{HasRead, IsOver, runs_left}
use Rattle.ne_iter.specs.declared.iter.divided.State.TheVariants.{Ended}
use Rattle.ne_iter.proofs.Groupings.{OpenRun}

abbrev pub invariant-loop-item : goal.invariant-loop-item
invariant-loop-item g l =
    let steps = g.I.Iterator.next_gives in
    let how = g.C.Division.how in
    ((s f : _) (rs : List (List _)) → HasRead steps how s f rs l.fn.self
    → OpenRun steps how g.met.C.Division.steady s f rs l.self-inside.iter l.self-inside.f
    l.first_key l.run)
    × (l.self-inside.state ≡ Ended)
    × (IsOver l.fn.self → ⊥)
    × g.C.Division.callable l.run l.self-inside.iter l.self-inside.f
    × g.I.Iterator.can_next l.self-inside.iter
    × IsFinite (g.I.Iterator.remaining l.self-inside.iter)
    × (size (g.I.Iterator.remaining l.self-inside.iter) + 1
    ≤ size (runs_left g.I.Iterator.remaining l.fn.self))

abbrev pub decreases-loop-item : goal.decreases-loop-item
decreases-loop-item g l = size (g.I.Iterator.remaining l.self-inside.iter)
