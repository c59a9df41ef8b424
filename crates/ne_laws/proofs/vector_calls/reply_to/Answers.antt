use Rattle.ne_laws.proofs.vector_calls.reply_to.Goals as goal
use Rattle.std.proofs.Common.{arith, refl}

pub returns-in-Len-clause-step : goal.returns-in-Len-clause-step
returns-in-Len-clause-step g c =
    rw c.in-Len.is (c.len-in-Len.result, refl, c.len-in-Len.ensures, refl)

pub returns-in-SplitOff-clause-step : goal.returns-in-SplitOff-clause-step
returns-in-SplitOff-clause-step g c =
    let h = c.in_ok-split_off-in-SplitOff in
    let size = c.len.ensures in
    let is = c.get-len.ensures.value in
    let wanted = c.get.ensures.value in
    rw c.in-SplitOff.is (
      λ within. (h.field-0, refl, h.ensures.rest, h.ensures.kept),
      λ beyond. absurd (omega (arith, beyond, c.if-get-len.true, size, is, wanted)),
    )
