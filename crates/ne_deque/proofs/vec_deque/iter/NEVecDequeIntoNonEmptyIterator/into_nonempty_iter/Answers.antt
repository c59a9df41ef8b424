use Rattle.ne_deque.proofs.vec_deque.iter.NEVecDequeIntoNonEmptyIterator.into_nonempty_iter.Goals
    as goal
use Rattle.std.specs.Prelude.{refl}
use Rattle.std.specs.Global.{Global}
use Rattle.ne_vec.specs.IteratorLaws.{lists_items_by_value}

pub returns : goal.returns
returns g c = record {
  into_nonempty_iter_gives = (refl, lists_items_by_value _ _ refl Global);
}
