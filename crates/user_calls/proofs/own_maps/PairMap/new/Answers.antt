use Rattle.user_calls.proofs.own_maps.PairMap.new.Goals as goal
use Rattle.user_calls.proofs.PairLists.{one_pair}

pub invariant_of-result : goal.invariant_of-result
invariant_of-result g c =
    rw c.in_ok-new.ensures (one_pair g.met.K.Eq.laws c.args.k c.args.v)
