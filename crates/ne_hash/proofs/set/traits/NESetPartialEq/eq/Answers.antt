use Rattle.ne_hash.proofs.set.traits.NESetPartialEq.eq.Goals as goal
use Rattle.std.proofs.Common.{rules}
use Rattle.ne_hash.proofs.Same.{sets_equal_iff_same}

pub returns-clause-same_set : goal.returns-clause-same_set
returns-clause-same_set g c =
    sets_equal_iff_same g.met.T.Eq.laws c.args.self.now c.args.other.now _ (search rules)
