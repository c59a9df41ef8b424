use Rattle.ne_heap.proofs.laws.heaps_one_by_one_are_collected.Goals as goal
use Rattle.std.proofs.lemmas.List.Sorted.{IsPermutation-sym, IsPermutation-trans}
use Rattle.ne_heap.proofs.Items.{same_items}

pub returns-clause-same_items : goal.returns-clause-same_items
returns-clause-same_items g c items h other one all =
    same_items h other
    (IsPermutation-trans h items other (IsPermutation-sym items h one.0) all.0)
