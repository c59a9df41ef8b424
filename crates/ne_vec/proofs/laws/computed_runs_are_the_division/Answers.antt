use Rattle.ne_vec.proofs.laws.computed_runs_are_the_division.Goals as goal
use Rattle.std.specs.Prelude.{[], ◌∷◌}
use Rattle.ne_vec.specs.Divisions.{runs_of}
use Rattle.ne_vec.specs.DivisionLaws.{divides, divide_only}

pub returns-clause-divides : goal.returns-clause-divides
unfolding runs_of
returns-clause-divides g c place same [] = divides (place same) []
returns-clause-divides g c place same (x ∷ xs) = divides (place same) (x ∷ xs)

pub returns-clause-only : goal.returns-clause-only
unfolding runs_of
returns-clause-only g c place same [] rs h = divide_only (place same) [] rs h
returns-clause-only g c place same (x ∷ xs) rs h = divide_only (place same) (x ∷ xs) rs h
