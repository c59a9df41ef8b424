use Rattle.ne_vec.proofs.vector.NEVec.sort_by_key.Goals as goal
use Rattle.std.proofs.Common.{rules}
use Rattle.std.proofs.lemmas.Result.{on_ok_weaker}
use Rattle.ne_vec.proofs.SortedKeys.{keeps_ties, keys_ascend}

pub returns-clause-keys : goal.returns-clause-keys
returns-clause-keys g c h acts =
    let s = c.sort_by_key.ensures in
    let key = g.met.K.Ord in
    let up = on_ok_weaker c.sort_by_key.result (keys_ascend g.F.FnMut c.args.f key.total h acts _)
    s.sorted in
    let ties = keeps_ties g.F.FnMut c.args.f key.total h acts key.matches_eq _ _ s.stable in
    search (rules, up, ties)
