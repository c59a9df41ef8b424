use Rattle.ne_laws.proofs.vector_calls.run_vec.Given as goal
use Rattle.std.proofs.Common.{◌≡◌, ◌<◌, ◌++◌, length}
use Rattle.std.specs.Vec.Iter.{into_iter_items}
use Rattle.ne_laws.specs.Calls.{RunsTo}
use Rattle.ne_laws.specs.VectorCalls.{HasItem, VectorReplies}

abbrev pub invariant-loop-call : goal.invariant-loop-call
invariant-loop-call g l = record {
  run : RunsTo HasItem VectorReplies l.initial.v l.yielded l.replies.items l.v;
  some : 0 < length l.v;
  one_each : length l.replies.items ≡ length l.yielded;
  left : l.yielded ++ into_iter_items l.call-iterator ≡ l.fn.calls.items;
}
