use Rattle.ne_runs.proofs.lines.numbers.Goals as goal
use Rattle.std.proofs.Common.{arith}

pub returns-clause-fits : goal.returns-clause-fits
returns-clause-fits c = omega (
  arith,
  c.loop-rest.invariant.fits,
  c.loop-rest.invariant.short,
  c.requires,
)
