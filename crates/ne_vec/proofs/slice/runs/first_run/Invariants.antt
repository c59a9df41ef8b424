use Rattle.ne_vec.proofs.slice.runs.first_run.Given as goal
use Rattle.std.proofs.Common.{length, ◌-◌, ◌<◌, ◌≤◌, Bool, take}
use Rattle.ne_vec.specs.Divisions.{IsRun}
use Rattle.ne_vec.specs.SliceRuns.{ActsAsAtPair}

-- The items before `end` are a run.
abbrev pub invariant-loop-end : goal.invariant-loop-end
invariant-loop-end g l = (0 < l.end) × (l.end ≤ length l.items)
    × ((test : g.row.T.Denot → g.row.T.Denot → Bool)
    → ActsAsAtPair g.F.Fn l.same test → IsRun (g.C.Comparison.place test) (take l.end l.items))

abbrev pub decreases-loop-end : goal.decreases-loop-end
decreases-loop-end g l = length l.items - l.end
