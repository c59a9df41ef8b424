-- The items that `retain` keeps of a heap.
use Rattle.std.specs.Prelude.{List, Result, Ok, Err}
use Rattle.std.specs.BinaryHeap.{heap_items}
use Rattle.std.specs.declared.collections.binary_heap.BinaryHeap.{BinaryHeap}

-- The items that are returned, in a non-empty heap or in the empty one.
abbrev pub kept_items : {X Z : Type 0} → Result (List X) (BinaryHeap X Z) → List X
kept_items (Ok items) = items
kept_items (Err heap) = heap_items heap
