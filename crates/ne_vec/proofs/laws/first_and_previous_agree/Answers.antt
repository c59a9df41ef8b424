use Rattle.ne_vec.proofs.laws.first_and_previous_agree.Goals as goal
use Rattle.ne_vec.proofs.Relations.{first_to_previous, previous_to_first}

pub returns : goal.returns
returns g c same xs rs laws = (first_to_previous same laws xs rs, previous_to_first same laws xs rs)
