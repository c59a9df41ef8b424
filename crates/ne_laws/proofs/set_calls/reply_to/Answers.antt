use Rattle.ne_laws.proofs.set_calls.reply_to.Goals as goal
use Rattle.std.proofs.Common.{refl}

pub returns-in-Len-clause-step : goal.returns-in-Len-clause-step
returns-in-Len-clause-step g c =
    rw c.in-Len.is (c.size.result, refl, c.size.ensures.size, refl)

pub returns-in-Remove-clause-step : goal.returns-in-Remove-clause-step
returns-in-Remove-clause-step g c =
    rw c.in-Remove.is (c.discard.result, refl, c.discard.ensures.discards)
