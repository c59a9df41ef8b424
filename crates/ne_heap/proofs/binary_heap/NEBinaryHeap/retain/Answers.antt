use Rattle.ne_heap.proofs.binary_heap.NEBinaryHeap.retain.Goals as goal
use Rattle.std.proofs.Common.{List, ◌≡◌, subst}
use Rattle.std.proofs.lemmas.Fn.{filter_same}
use Rattle.std.specs.List.Sorted.{IsPermutation}
use Rattle.ne_heap.specs.HeapItems.{SameItems}
use Rattle.ne_heap.proofs.Items.{same_items}

same : {X : Type 0} (xs ys zs : List X) → xs ≡ ys → IsPermutation xs zs → SameItems ys zs
same xs ys zs e p = same_items ys zs (subst (λ items. IsPermutation items zs) e p)

pub returns-then-is_empty-clause-kept : goal.returns-then-is_empty-clause-kept
returns-then-is_empty-clause-kept g c keeps pure =
    let made = c.retain.ensures.filtered in
    rw (← c.self.view_is)
    (same _ _ _ (filter_same _ keeps _ (λ x r f' k. ((pure x r f' k).1, (pure x r f' k).0)) _ _
    made.1) made.2)

pub returns-else-is_empty-clause-kept : goal.returns-else-is_empty-clause-kept
returns-else-is_empty-clause-kept g c keeps pure =
    let made = c.retain.ensures.filtered in
    rw (← c.self.view_is)
    (same _ _ _ (filter_same _ keeps _ (λ x r f' k. ((pure x r f' k).1, (pure x r f' k).0)) _ _
    made.1) made.2)
