use Rattle.ne_vec.proofs.slice.ChunksIterIterator.next.Goals as goal
use Rattle.std.proofs.Common.{ap, length, arith}
use Rattle.ne_vec.proofs.Chunked.{first_chunk}

pub returns-clause-steps : goal.returns-clause-steps
returns-clause-steps g c =
    let steps = c.in_ok-part.ensures.steps in
    rw (← c.self.view_is) (first_chunk _ _ _ _ _ c.self.invariant steps.0 steps.1.2 steps.1.0
    steps.1.1)

pub returns-clause-goes : goal.returns-clause-goes
returns-clause-goes g c =
    let steps = c.in_ok-part.ensures.steps in
    let one_less = ap length (first_chunk _ _ _ _ _ c.self.invariant steps.0 steps.1.2 steps.1.0
    steps.1.1) in
    rw (← c.self.view_is) (record {
      on = λ _. (tt, tt, omega (arith, one_less));
      keeps = tt;
      rests = λ _. tt;
    })
