use Rattle.ne_vec.proofs.laws.mapped_list_has_the_mapped_runs.Goals as goal
use Rattle.ne_vec.specs.DivisionLaws.{division_mapped}

pub returns : goal.returns
returns g c f goes_on mapped_on xs rs alike d = division_mapped f goes_on mapped_on alike xs rs d
