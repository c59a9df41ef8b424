-- The items that an iterator over a non-empty list has left, and the list that it yields as a
-- source.
use Rattle.std.specs.Prelude.{◌≡◌, ◌^◌, ◌<◌, List, length}
use Rattle.std.specs.Iterator.Runs.{EveryRun, ItemsAre, ItemsMapTo}
use Rattle.std.specs.Iterator.Adapters.{IterYieldsInOrder}
use Rattle.std.specs.Vec.Iter.{into_iter_items, into_iter_len, into_iter_steps}
use Rattle.std.specs.Slice.Iter.{iter_rest, iter_mut_rest, iter_mut_steps, iter_steps}
use Rattle.std.specs.declared.slice.Iter.{Iter}
use Rattle.std.specs.declared.slice.IterMut.{IterMut}
use Rattle.std.specs.declared.vec.IntoIter.{IntoIter}
use Rattle.ne_vec.specs.Lists.{Listed}

-- The iterator yields references to the items of xs. The last part serves the automatic proof.
abbrev pub IteratesOver : {X : Type 0} → List X → Iter X → Type 0
IteratesOver {X} xs it = (0 < length xs) × (iter_rest it ≡ xs) × (length (iter_rest it) < 2 ^ 64)
    × IterYieldsInOrder X

-- The mutable iterator yields mutable references to the items of xs.
abbrev pub IteratesOverMut : {X : Type 0} → List X → IterMut X → Type 0
IteratesOverMut {X} xs it = (0 < length xs) × (iter_mut_rest it ≡ xs)
    × (length (iter_mut_rest it) < 2 ^ 64)
    × EveryRun (iter_mut_steps {A = X}) (λ p. ItemsMapTo p (λ y. y.now) (iter_mut_rest p.from))

-- The iterator yields the items of xs, by value.
abbrev pub IteratesByValue : {X Z : Type 0} → List X → IntoIter X Z → Type 0
IteratesByValue {X} {Z} xs it = (0 < length xs) × (into_iter_items it ≡ xs)
    × (into_iter_len it ≡ length xs) × (into_iter_len it < 2 ^ 64)
    × EveryRun (into_iter_steps {X = X} {Z = Z}) (λ p. ItemsAre p (into_iter_items p.from))

-- The iterator s is a source of references to the items of xs.
abbrev pub ListsItems : {X : Type 0} → List X → List X → Type 0
ListsItems s xs = Listed IteratesOver iter_steps (λ y. y.now) s xs

-- The iterator s, whose memory is from the allocator Z, is a source of the items of xs, by value.
abbrev pub ListsItemsByValue : {X : Type 0} (Z : Type 0) → List X → List X → Type 0
ListsItemsByValue Z s xs = Listed (IteratesByValue {Z = Z}) into_iter_steps (λ x. x) s xs
