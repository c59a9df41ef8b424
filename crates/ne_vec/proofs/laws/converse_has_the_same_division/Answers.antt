use Rattle.ne_vec.proofs.laws.converse_has_the_same_division.Goals as goal
use Rattle.ne_vec.proofs.Relations.{division_converse}

pub returns : goal.returns
returns g c same xs rs symm d = division_converse same symm xs rs d
