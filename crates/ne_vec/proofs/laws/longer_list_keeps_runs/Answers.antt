use Rattle.ne_vec.proofs.laws.longer_list_keeps_runs.Goals as goal
use Rattle.ne_vec.specs.DivisionLaws.{longer_keeps}

pub returns : goal.returns
returns g c goes_on xs more rs all last h k = longer_keeps goes_on xs more rs all last h k
