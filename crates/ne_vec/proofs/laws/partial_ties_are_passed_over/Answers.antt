use Rattle.ne_vec.proofs.laws.partial_ties_are_passed_over.Goals as goal
use Rattle.ne_vec.proofs.Compared.{partial_ties_differ, partial_ties_shorter, partial_ties_longer}
use Rattle.ne_vec.proofs.Compared.{partial_ties_equal}

pub returns-clause-differs : goal.returns-clause-differs
returns-clause-differs g c prefix other v w x y h n =
    partial_ties_differ g.T.PartialOrd.partial_cmp prefix other v w x y h n

pub returns-clause-shorter : goal.returns-clause-shorter
returns-clause-shorter g c prefix other w y h =
    partial_ties_shorter g.T.PartialOrd.partial_cmp prefix other w y h

pub returns-clause-longer : goal.returns-clause-longer
returns-clause-longer g c prefix other v x h =
    partial_ties_longer g.T.PartialOrd.partial_cmp prefix other v x h

pub returns-clause-equal : goal.returns-clause-equal
returns-clause-equal g c v w = partial_ties_equal g.T.PartialOrd.partial_cmp v w
