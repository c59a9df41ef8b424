use Rattle.ne_runs.proofs.lines.number.Goals as goal
use Rattle.std.proofs.Common.{arith}
use Rattle.ne_runs.proofs.Numbers.{nine_digits_fit}

pub overflow_mul-value : goal.overflow_mul-value
overflow_mul-value c =
    let small = nine_digits_fit c.loop-byte.value c.loop-byte.byte-index c.loop-byte.invariant.small
    (omega arith) in omega arith

pub overflow_add-value : goal.overflow_add-value
overflow_add-value c =
    let small = nine_digits_fit c.loop-byte.value c.loop-byte.byte-index c.loop-byte.invariant.small
    (omega arith) in omega (arith, small, c.type_inv.line c.loop-byte.byte-index)
