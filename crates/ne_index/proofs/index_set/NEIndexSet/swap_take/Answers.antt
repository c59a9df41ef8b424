use Rattle.ne_index.proofs.index_set.NEIndexSet.swap_take.Goals as goal
use Rattle.ne_index.proofs.Found.{item-passes}

pub returns-then-len-gt1-clause-same : goal.returns-then-len-gt1-clause-same
returns-then-len-gt1-clause-same g c = item-passes _ _ _ c.swap_take.ensures.key
