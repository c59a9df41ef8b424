use Rattle.ne_runs.proofs.whole_run.write_all.Goals as goal
use Rattle.std.proofs.Common.{rules}
use Rattle.ne_runs.proofs.Writes.{takes_more}

pub loop-rest-preserved : goal.loop-rest-preserved
loop-rest-preserved g c = record {
  healthy = search rules;
  taken = takes_more c.args.text.now c.loop-rest.rest.now c.in-Ok.count _ _ _
      c.loop-rest.invariant.taken c.in-Ok.ensures.bytes;
}
