use Rattle.ne_laws.proofs.set_calls.run_set.Given as goal
use Rattle.std.proofs.Common.{◌≡◌, ◌++◌, length}
use Rattle.std.specs.Vec.Iter.{into_iter_items}
use Rattle.ne_laws.specs.Calls.{RunsTo}
use Rattle.ne_laws.specs.SetCalls.{SetReplies}
use Rattle.ne_laws.specs.Sets.{IsNonEmptySet}

abbrev pub invariant-loop-call : goal.invariant-loop-call
invariant-loop-call g l = record {
  run : RunsTo (IsNonEmptySet g.T.PartialEq.eq) (SetReplies g.T.PartialEq.eq)
      (g.S.NonEmptySet.items l.initial.s) l.yielded l.replies.items (g.S.NonEmptySet.items l.s);
  set : IsNonEmptySet g.T.PartialEq.eq (g.S.NonEmptySet.items l.s);
  one_each : length l.replies.items ≡ length l.yielded;
  left : l.yielded ++ into_iter_items l.call-iterator ≡ l.fn.calls.items;
}
