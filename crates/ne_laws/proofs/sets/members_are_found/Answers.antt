use Rattle.ne_laws.proofs.sets.members_are_found.Goals as goal
use Rattle.std.proofs.Common.{sym}
use Rattle.ne_laws.proofs.SetItems.{is_found}

pub returns : goal.returns
returns g c = λ xs q. sym (is_found (g.T.PartialEq.eq q) xs)
