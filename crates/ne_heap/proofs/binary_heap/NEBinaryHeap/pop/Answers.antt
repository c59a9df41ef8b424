use Rattle.ne_heap.proofs.binary_heap.NEBinaryHeap.pop.Goals as goal
use Rattle.std.proofs.Common.{arith, heap_items}
use Rattle.std.proofs.lemmas.Grind.{common_steps}
use Rattle.std.proofs.lemmas.Option.{IfSome_then}
use Rattle.ne_heap.proofs.Items.{popped_greatest, takes_item}

pub returns-then-len-gt1-clause-items : goal.returns-then-len-gt1-clause-items
returns-then-len-gt1-clause-items g c =
    let taken = IfSome_then c.pop.result c.pop.ensures.permutation
    (λ x p. takes_item (heap_items c.self.inside.inner) x (heap_items c.pop.new.self) p) in
    grind (arith, common_steps, taken)

pub returns-then-len-gt1-clause-greatest : goal.returns-then-len-gt1-clause-greatest
returns-then-len-gt1-clause-greatest g c = rw (← c.self.view_is)
    (popped_greatest g.T.PartialEq.eq g.T.Ord.cmp g.met.T.Eq.laws (heap_items c.self.inside.inner) _
    c.pop.result c.self.invariant.0 c.self.invariant.1 c.pop.ensures.top c.pop.ensures.heap_order)
