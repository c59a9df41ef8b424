use Rattle.ne_iter.proofs.vector.NEVecIntoNonEmptyIterator.into_nonempty_iter.Goals as goal
use Rattle.std.specs.Global.{Global}
use Rattle.ne_vec.specs.IteratorLaws.{lists_items_by_value}

pub returns : goal.returns
returns g c =
    let e = c.from.ensures in
    record { into_nonempty_iter_gives = (e, lists_items_by_value _ _ e Global) }
