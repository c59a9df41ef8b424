use Rattle.ne_deque.proofs.vec_deque.NEVecDeque.pop_back_if.Goals as goal
use Rattle.std.proofs.Common.{◌-◌, ◌<◌, inr, true, false, Some, take, length, refl, ap}
use Rattle.std.proofs.Common.{subst, ◌∙◌, arith}
use Rattle.std.proofs.lemmas.List.{get_or-set_same, take-set}
use Rattle.std.specs.Fn.{FnOnceReturnsAtMut}
use Rattle.ne_deque.proofs.Ends.{by_last}
use Rattle.ne_deque.proofs.vec_deque.NEVecDeque.pop_back_if.Goals.{
  else-len-gt1-via-then-len-gt1+else-predicate,
  else-len-gt1-via-else-len-gt1,
}

pub returns-then-predicate-clause-popped : goal.returns-then-predicate-clause-popped
returns-then-predicate-clause-popped g c more =
    let old = c.self.inside.inner.items in let n = c.len-len.result - 1 in
    let x = c.index_mut.result.now in let y = c.predicate.new.arg2 in
    let was = by_last old n x y (omega (arith, c.self.invariant)) c.index_mut.ensures.value in
    let called : FnOnceReturnsAtMut g.P.FnOnce c.args.predicate x c.predicate.result y =
    record { shown = _; shows = refl; left = _; met = c.predicate.ensures; leaves = refl } in
    rw (← c.self.view_is)
    (inr (
      take n old,
      x,
      true,
      y,
      was.0,
      subst (λ b. FnOnceReturnsAtMut g.P.FnOnce c.args.predicate x b y) c.if-predicate.true called,
      c.pop_back.ensures.value y (omega (arith, c.self.invariant))
          ∙ ap Some (rw (← c.len-len.ensures) (get_or-set_same old n y y (omega arith))),
      c.pop_back.ensures.rest ∙ rw (← c.len-len.ensures) (take-set old n y),
    ))

pub returns-else-len-gt1-clause-popped : goal.returns-else-len-gt1-clause-popped
returns-else-len-gt1-clause-popped g c more =
    elim c.else-len-gt1.branch [
      | else-len-gt1-via-then-len-gt1+else-predicate w ↦
          let old = c.self.inside.inner.items in let n = c.len-len.result - 1 in
          let x = w.index_mut.result.now in let y = w.predicate.new.arg2 in
          let was = by_last old n x y (omega (arith, c.self.invariant)) w.index_mut.ensures.value in
          let called : FnOnceReturnsAtMut g.P.FnOnce c.args.predicate x w.predicate.result y =
          record { shown = _; shows = refl; left = _; met = w.predicate.ensures; leaves = refl } in
          rw (← c.self.view_is)
          (inr (
            take n old,
            x,
            false,
            y,
            was.0,
            subst (λ b. FnOnceReturnsAtMut g.P.FnOnce c.args.predicate x b y)
                w.if-predicate.false called,
            refl,
            w.self-is ∙ was.1,
          ))
      | else-len-gt1-via-else-len-gt1 w ↦
          let two : 1 < length c.self.inside.inner.items = rw c.self.view_is more in
          absurd (omega arith)
    ]
