use Rattle.ne_heap.proofs.binary_heap.NEBinaryHeap.peek.Goals as goal
use Rattle.std.proofs.Common.{arith}
use Rattle.std.proofs.lemmas.Grind.{common_steps}
use Rattle.ne_heap.proofs.Items.{is_greatest}

pub returns : goal.returns
returns g c =
    is_greatest g.T.PartialEq.eq g.T.Ord.cmp g.met.T.Eq.laws c.args.self.now c.unwrap.result.now
    (grind (arith, common_steps)) (grind (arith, common_steps))
