use Rattle.ne_runs.proofs.whole_run.read_all.Given as goal
use Rattle.std.proofs.Common.{◌≡◌, ◌+◌, ◌-◌, ◌≤◌, false, vec_len}
use Rattle.std.specs.Io.KnownBytes.{Consumes}
use Rattle.ne_runs.specs.declared.whole_run.TheConstants.{LIMIT}

abbrev pub invariant-loop-chunk : goal.invariant-loop-chunk
invariant-loop-chunk g l = record {
  healthy : g.R.Source.has_failed l.reader ≡ false;
  bytes : Consumes (g.R.Source.left l.fn.reader) (g.R.Source.left l.reader) l.input.items;
  bound : vec_len l.input ≤ LIMIT + 1;
}

-- The room that is left: each pass of the loop adds at least one byte.
abbrev pub decreases-loop-chunk : goal.decreases-loop-chunk
decreases-loop-chunk g l = LIMIT + 1 - vec_len l.input
