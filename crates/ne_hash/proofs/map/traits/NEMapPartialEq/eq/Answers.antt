use Rattle.ne_hash.proofs.map.traits.NEMapPartialEq.eq.Goals as goal
use Rattle.std.proofs.Common.{rules}
use Rattle.ne_hash.proofs.Same.{maps_equal_iff_same}

pub returns-clause-same_map : goal.returns-clause-same_map
returns-clause-same_map g c =
    maps_equal_iff_same g.met.K.Eq.laws g.V.PartialEq.eq c.args.self.now c.args.other.now _
    (search rules)
