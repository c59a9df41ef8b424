use Rattle.ne_iter.proofs.laws.sources.slice_runs_are_the_division.Goals as goal
use Rattle.ne_vec.specs.Divisions.{by_first, by_previous}
use Rattle.ne_iter.proofs.SliceDivisions.{gives_division}

pub returns : goal.returns
returns g c =
    let exists = c.has_one_division.ensures.exists in
    let unique = c.has_one_division.ensures.unique in
    let taken = c.runs_taken_are_the_first_runs.ensures in
    record {
      by_first = gives_division g.F.Fn by_first exists unique taken;
      by_previous = gives_division g.F.Fn by_previous exists unique taken;
    }
