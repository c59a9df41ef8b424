use Rattle.ne_vec.proofs.laws.runs_taken_are_the_first_runs.Goals as goal
use Rattle.ne_vec.proofs.FirstRuns.{runs_before}

pub returns : goal.returns
returns g c place h s t rs all = runs_before g.F.Fn place h s t rs all
