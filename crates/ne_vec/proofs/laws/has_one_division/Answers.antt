use Rattle.ne_vec.proofs.laws.has_one_division.Goals as goal
use Rattle.ne_vec.specs.DivisionLaws.{divide, divides, division_only}

pub returns-clause-exists : goal.returns-clause-exists
returns-clause-exists g c goes_on xs = (divide goes_on xs, divides goes_on xs)

pub returns-clause-unique : goal.returns-clause-unique
returns-clause-unique g c goes_on xs rs others h k = division_only goes_on xs rs others h k
