use Rattle.ne_iter.proofs.iter.collected.all_or_errors.Given as goal
use Rattle.std.proofs.Common.{◌≡◌, ◌++◌}
use Rattle.std.specs.List.{filter_map}
use Rattle.std.specs.Result.{result_err}

abbrev pub invariant-loop-item : goal.invariant-loop-item
invariant-loop-item g l = l.errors ≡ l.initial.errors ++ filter_map result_err l.yielded
