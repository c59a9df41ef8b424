-- The items that the iterator over a queue by reference has left, and the list that it yields as a
-- source. What the iterators by value and by mutable reference have left is said by `ne_vec`'s
-- `IteratesByValue` and `IteratesOverMut`, since they are of the types of a vector's and a slice's.
use Rattle.std.specs.Prelude.{◌≡◌, ◌^◌, ◌<◌, List, length}
use Rattle.std.specs.Iterator.Runs.{EveryRun, ItemsMapTo}
use Rattle.std.specs.VecDeque.Iter.{deque_iter_rest, deque_iter_steps}
use Rattle.std.specs.declared.collections.vec_deque.Iter.{Iter}
use Rattle.ne_vec.specs.Lists.{Listed}

-- The iterator yields references to the items of xs. The last part serves the automatic proof.
abbrev pub IteratesQueue : {X : Type 0} → List X → Iter X → Type 0
IteratesQueue {X} xs it = (0 < length xs) × (deque_iter_rest it ≡ xs)
    × (length (deque_iter_rest it) < 2 ^ 64)
    × EveryRun (deque_iter_steps {X = X}) (λ p. ItemsMapTo p (λ y. y.now) (deque_iter_rest p.from))

-- The iterator s is a source of references to the items of xs.
abbrev pub ListsQueue : {X : Type 0} → List X → List X → Type 0
ListsQueue s xs = Listed IteratesQueue deque_iter_steps (λ y. y.now) s xs
