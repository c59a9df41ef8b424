use Rattle.ne_heap.proofs.binary_heap.NEBinaryHeap.extend.Goals as goal
use Rattle.std.proofs.Common.{◌≡◌, ◌+◌, ◌++◌, heap_items, heap_len, length}
use Rattle.std.specs.BinaryHeap.{KeepsHeap}
use Rattle.std.specs.List.Sorted.{IsPermutation}
use Rattle.ne_iter.specs.Keyed.ExtendLaws.{extends_by_list}
use Rattle.ne_heap.specs.HeapItems.{SameItems}
use Rattle.ne_heap.proofs.Items.{same_items}

pub returns-clause-lists : goal.returns-clause-lists
returns-clause-lists g c =
    let old = c.self.inside.inner in
    let new = c.extend.new.self in
    rw (← c.self.view_is) (extends_by_list _ _ c.args.iter
    (λ h xs w. (heap_len w ≡ heap_len h + length xs) × IsPermutation (heap_items h ++ xs)
    (heap_items w) × KeepsHeap g.T.Ord.cmp (heap_items h) (heap_items w)) old new c.extend.result
    (heap_items old) (λ all. SameItems all (heap_items new)) (λ ys made. same_items _ _ made.1)
    c.extend.ensures.ran)
