use Rattle.ne_index.proofs.index_map.NEIndexMap.swap_remove_entry.Goals as goal
use Rattle.ne_index.proofs.Found.{key-passes}

pub returns-then-len-gt1-clause-same : goal.returns-then-len-gt1-clause-same
returns-then-len-gt1-clause-same g c = key-passes _ _ _ c.swap_remove_entry.ensures.key
