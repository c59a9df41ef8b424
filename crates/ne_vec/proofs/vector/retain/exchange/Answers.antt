use Rattle.ne_vec.proofs.vector.retain.exchange.Goals as goal
use Rattle.std.proofs.Common.{arith, rules}
use Rattle.ne_vec.proofs.Sifts.{parts_swapped}

pub returns : goal.returns
returns g c =
    let s = c.split_at_mut-front.ensures in
    rw (s.value, ← s.front_len) (parts_swapped c.split_at_mut-front.result.0.now
    c.split_at_mut-front.result.1.now c.args.low c.swap.new.x c.swap.new.y (omega arith)
    (omega arith) (search rules) (search rules))
