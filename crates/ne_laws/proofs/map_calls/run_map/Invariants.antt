use Rattle.ne_laws.proofs.map_calls.run_map.Given as goal
use Rattle.std.proofs.Common.{◌≡◌, ◌++◌, length}
use Rattle.std.specs.Vec.Iter.{into_iter_items}
use Rattle.ne_laws.specs.Calls.{RunsTo}
use Rattle.ne_laws.specs.MapCalls.{MapReplies}
use Rattle.ne_laws.specs.Maps.{IsNonEmptyMap}

abbrev pub invariant-loop-call : goal.invariant-loop-call
invariant-loop-call g l = record {
  run : RunsTo (IsNonEmptyMap g.K.PartialEq.eq) (MapReplies g.K.PartialEq.eq)
      (g.M.NonEmptyMap.entries l.initial.m) l.yielded l.replies.items (g.M.NonEmptyMap.entries l.m);
  map : IsNonEmptyMap g.K.PartialEq.eq (g.M.NonEmptyMap.entries l.m);
  one_each : length l.replies.items ≡ length l.yielded;
  left : l.yielded ++ into_iter_items l.call-iterator ≡ l.fn.calls.items;
}
