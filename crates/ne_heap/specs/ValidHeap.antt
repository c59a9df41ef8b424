-- What the list of an `NEBinaryHeap` satisfies: the invariant of the type. A caller that gets a
-- `BinaryHeap` from one, or a reference to it, is told it by a clause `valid`.
use Rattle.std.specs.Prelude.{◌<◌, List, length}
use Rattle.std.specs.BinaryHeap.{IsHeap}
use Rattle.std.specs.declared.cmp.Ordering.{Ordering}

-- There is an item, and no item is less than its children in the heap.
abbrev pub IsValid : {T : Type 0} → (T → T → Ordering) → List T → Type 0
IsValid cmp items = (0 < length items) × IsHeap cmp items
