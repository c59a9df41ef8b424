use Rattle.ne_deque.proofs.laws.equal_queues_have_equal_hashes.Goals as goal
use Rattle.std.specs.Hash.{items_Alike}

pub returns : goal.returns
returns g c p q h = (items_Alike (record { fed = g.met.T.Hash.respects_eq })).fed p q
    h
