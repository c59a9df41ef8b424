use Rattle.ne_iter.proofs.iter.group_by.ByKeyDivision.key.Goals as goal
use Rattle.std.proofs.Common.{refl}
use Rattle.std.proofs.iter.Next.{served}

pub f-requires : goal.f-requires
f-requires g c = served c.requires.3 _ _ c.requires.4 _ refl
