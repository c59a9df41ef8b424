use Rattle.ne_heap.proofs.binary_heap.traits.NEBinaryHeapSingleton.extend_one.Goals as goal
use Rattle.std.proofs.lemmas.Result.{on_ok_weaker}
use Rattle.ne_heap.proofs.Items.{one_more}

pub returns-clause-added : goal.returns-clause-added
returns-clause-added g c = on_ok_weaker c.push.result
    (λ added xs same. one_more xs _ _ c.args.item same added.0) c.push.ensures.added
