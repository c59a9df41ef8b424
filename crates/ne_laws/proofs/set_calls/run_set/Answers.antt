use Rattle.ne_laws.proofs.set_calls.run_set.Goals as goal
use Rattle.std.proofs.Common.{◌∷◌, [], ◌++◌, sym}
use Rattle.std.specs.Vec.Iter.{into_iter_items}
use Rattle.ne_laws.proofs.CallsSoFar.{as_many, left_after, on_err, one_more}

pub loop-call-preserved : goal.loop-call-preserved
loop-call-preserved g c = record {
  run = rw c.in_ok-push.ensures.items (one_more _ _ _ c.loop-call.yielded
      c.loop-call.replies.items _ c.in-Some.call c.in_ok-reply.reply _
      c.loop-call.invariant.run c.in_ok-reply.ensures.step c.reply_to.ensures.set);
  set = c.reply_to.ensures.set;
  one_each = rw c.in_ok-push.ensures.items (as_many _ _ _ _ c.loop-call.invariant.one_each);
  left = left_after c.loop-call.yielded c.in-Some.call _ _ _ c.in-Some.ensures.steps.0
      c.loop-call.invariant.left;
}

pub returns-in_err-push-clause-refused : goal.returns-in_err-push-clause-refused
returns-in_err-push-clause-refused g c =
    on_err c.from_residual-in_err-push.result _ (
      c.loop-call.yielded ++ c.in-Some.call ∷ [],
      into_iter_items c.next.new.self,
      c.loop-call.replies.items ++ c.in_ok-reply.reply ∷ [],
      sym (left_after c.loop-call.yielded c.in-Some.call _ _ _ c.in-Some.ensures.steps.0
          c.loop-call.invariant.left),
      one_more _ _ _ c.loop-call.yielded c.loop-call.replies.items _ c.in-Some.call
          c.in_ok-reply.reply _ c.loop-call.invariant.run c.in_ok-reply.ensures.step
          c.reply_to.ensures.set,
    )
