use Rattle.ne_vec.proofs.laws.lists_are_in_lexicographic_order.Goals as goal
use Rattle.ne_vec.proofs.Compared.{differs, shorter, longer, same_list}

pub returns-clause-differs : goal.returns-clause-differs
returns-clause-differs g c prefix v w x y n = differs g.T.Ord.cmp g.met.T.Ord.total prefix v w x y n

pub returns-clause-shorter : goal.returns-clause-shorter
returns-clause-shorter g c prefix w y = shorter g.T.Ord.cmp g.met.T.Ord.total prefix w y

pub returns-clause-longer : goal.returns-clause-longer
returns-clause-longer g c prefix v x = longer g.T.Ord.cmp g.met.T.Ord.total prefix v x

pub returns-clause-same : goal.returns-clause-same
returns-clause-same g c v = same_list g.T.Ord.cmp g.met.T.Ord.total v
