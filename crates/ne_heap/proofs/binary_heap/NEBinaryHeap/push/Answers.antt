use Rattle.ne_heap.proofs.binary_heap.NEBinaryHeap.push.Goals as goal
use Rattle.ne_heap.proofs.Items.{adds_item}

pub returns-clause-added : goal.returns-clause-added
returns-clause-added g c = rw (← c.self.view_is)
    (adds_item c.args.item _ _ c.in_ok-push.ensures.permutation)
