use Rattle.ne_iter.proofs.laws.extremes.numbers_have_one_least.Goals as goal
use Rattle.ne_iter.proofs.Extremes.{least_there, only_least}

pub returns-clause-there : goal.returns-clause-there
returns-clause-there c x xs = let m = least_there x xs in (m.0, m.1.0, m.1.1)

pub returns-clause-only : goal.returns-clause-only
returns-clause-only c = only_least
