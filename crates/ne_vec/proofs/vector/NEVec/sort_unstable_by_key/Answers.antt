use Rattle.ne_vec.proofs.vector.NEVec.sort_unstable_by_key.Goals as goal
use Rattle.ne_vec.proofs.SortedKeys.{keys_ascend}

pub returns-clause-keys : goal.returns-clause-keys
returns-clause-keys g c h acts =
    keys_ascend g.F.FnMut c.args.f g.met.K.Ord.total h acts _ c.sort_unstable_by_key.ensures.sorted
