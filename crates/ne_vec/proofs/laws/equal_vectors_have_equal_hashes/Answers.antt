use Rattle.ne_vec.proofs.laws.equal_vectors_have_equal_hashes.Goals as goal
use Rattle.std.specs.Hash.{items_Alike}

pub returns : goal.returns
returns g c v w h = (items_Alike (record { fed = g.met.T.Hash.respects_eq })).fed v w
    h
