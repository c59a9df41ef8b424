use Rattle.ne_vec.proofs.slice.runs.ByPreviousComparison.index.Goals as goal
use Rattle.std.proofs.Common.{◌≡◌, ◌-◌, Some, slice_get, sym, subst}
use Rattle.ne_vec.proofs.FirstRuns.{by_previous-last}

pub returns-clause-compares : goal.returns-clause-compares
returns-clause-compares g c test run x next len last =
    by_previous-last test run x next
    (subst (λ n. slice_get run (n - 1) ≡ Some x) (sym len) last)
