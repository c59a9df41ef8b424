use Rattle.ne_heap.proofs.binary_heap.NEBinaryHeap.append.Goals as goal
use Rattle.std.proofs.Common.{arith}
use Rattle.std.proofs.lemmas.Grind.{common_steps}
use Rattle.std.proofs.lemmas.Result.{on_ok_weaker}
use Rattle.ne_heap.proofs.Items.{same_items}

pub returns-clause-added : goal.returns-clause-added
returns-clause-added g c =
    let added = on_ok_weaker c.append.result (λ p. same_items _ _ p)
    c.append.ensures.permutation in
    grind (arith, common_steps, added)
