use Rattle.ne_vec.proofs.slice.NESlice.nonempty_iter.Goals as goal
use Rattle.ne_vec.specs.IteratorLaws.{lists_items}

pub returns-clause-lists : goal.returns-clause-lists
returns-clause-lists g c =
    let e = c.self.view_is in
    lists_items _ _ cc
