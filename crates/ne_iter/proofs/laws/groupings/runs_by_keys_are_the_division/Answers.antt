use Rattle.ne_iter.proofs.laws.groupings.runs_by_keys_are_the_division.Goals as goal
use Rattle.ne_iter.specs.Keys.{IsDividedBy}

pub returns : goal.returns
unfolding IsDividedBy
returns g c eq h xs rs divided = divided
