use Rattle.ne_vec.proofs.vector.NEVec.retain_mut.Goals as goal
use Rattle.std.proofs.Common.{◌≡◌, length, take_at, arith}
use Rattle.ne_vec.proofs.Kept.{retains_filtered}

pub returns-clause-kept : goal.returns-clause-kept
returns-clause-kept g c keeps writes pure =
    let called = rw c.as_mut_slice.ensures.value at c.move_kept_to_front-kept.ensures.called in
    let long : length c.move_kept_to_front-kept.new.items ≡ c.self.inside.inner.len =
    omega arith in
    rw (c.try_from_kept.ensures.kept, ← c.self.view_is, c.truncate.ensures.items, take_at)
    (retains_filtered _ keeps writes _ pure _ _ called)
