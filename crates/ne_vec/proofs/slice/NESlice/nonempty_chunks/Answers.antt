use Rattle.ne_vec.proofs.slice.NESlice.nonempty_chunks.Goals as goal
use Rattle.ne_vec.proofs.PartLists.{chunks_give}

pub returns-clause-lists : goal.returns-clause-lists
returns-clause-lists g c =
    let view = c.self.view_is in
    let size = c.chunks.ensures.size in
    let rest = c.chunks.ensures.rest in
    let n = c.get.ensures in
    chunks_give _ _ cc
