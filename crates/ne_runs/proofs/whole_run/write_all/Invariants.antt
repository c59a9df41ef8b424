use Rattle.ne_runs.proofs.whole_run.write_all.Given as goal
use Rattle.std.proofs.Common.{◌≡◌, false, length}
use Rattle.ne_runs.specs.ProgramRuns.{TakesPart}

-- A prefix of the text was taken so far, and no call failed.
abbrev pub invariant-loop-rest : goal.invariant-loop-rest
invariant-loop-rest g l = record {
  healthy : g.W.Sink.has_failed l.writer ≡ false;
  taken : TakesPart l.text l.rest (g.W.Sink.taken l.fn.writer) (g.W.Sink.taken l.writer);
}

abbrev pub decreases-loop-rest : goal.decreases-loop-rest
decreases-loop-rest g l = length l.rest
