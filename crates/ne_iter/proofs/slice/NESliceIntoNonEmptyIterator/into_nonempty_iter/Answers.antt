use Rattle.ne_iter.proofs.slice.NESliceIntoNonEmptyIterator.into_nonempty_iter.Goals as goal
use Rattle.ne_vec.specs.IteratorLaws.{lists_items}

pub returns : goal.returns
returns g c =
    let e = c.from.ensures in
    record { into_nonempty_iter_gives = (e, lists_items _ _ e) }
