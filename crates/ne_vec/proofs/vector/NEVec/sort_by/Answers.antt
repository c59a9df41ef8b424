use Rattle.ne_vec.proofs.vector.NEVec.sort_by.Goals as goal
use Rattle.std.proofs.Common.{rules}
use Rattle.std.proofs.lemmas.Result.{on_ok_weaker}
use Rattle.ne_vec.proofs.SortedItems.{items_ascend, keeps_tied}

pub returns-clause-ordered : goal.returns-clause-ordered
returns-clause-ordered g c order acts =
    let s = c.sort_by.ensures in
    let up = on_ok_weaker c.sort_by.result (items_ascend g.F.FnMut c.args.f order acts _)
    s.sorted in
    let tied = keeps_tied g.F.FnMut c.args.f order acts _ _ s.stable in
    search (rules, up, tied)
