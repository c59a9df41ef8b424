use Rattle.ne_vec.proofs.vector.NEVec.sort_unstable_by.Goals as goal
use Rattle.ne_vec.proofs.SortedItems.{items_ascend}

pub returns-clause-ordered : goal.returns-clause-ordered
returns-clause-ordered g c order acts =
    items_ascend g.F.FnMut c.args.f order acts _ c.sort_unstable_by.ensures.sorted
