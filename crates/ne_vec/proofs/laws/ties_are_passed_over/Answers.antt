use Rattle.ne_vec.proofs.laws.ties_are_passed_over.Goals as goal
use Rattle.ne_vec.proofs.Compared.{ties_differ, ties_shorter, ties_longer, ties_equal}

pub returns-clause-differs : goal.returns-clause-differs
returns-clause-differs g c prefix other v w x y h n = ties_differ g.T.Ord.cmp prefix other v w x y
    h n

pub returns-clause-shorter : goal.returns-clause-shorter
returns-clause-shorter g c prefix other w y h = ties_shorter g.T.Ord.cmp prefix other w y h

pub returns-clause-longer : goal.returns-clause-longer
returns-clause-longer g c prefix other v x h = ties_longer g.T.Ord.cmp prefix other v x h

pub returns-clause-equal : goal.returns-clause-equal
returns-clause-equal g c v w = ties_equal g.T.Ord.cmp v w
