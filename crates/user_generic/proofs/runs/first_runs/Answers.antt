use Rattle.user_generic.proofs.runs.first_runs.Goals as goal
use Rattle.std.proofs.Common.{true, ltb, map, Ok, ◌≤◌, subst}
use Rattle.std.proofs.lemmas.Result.{IfOk-weaker}
use Rattle.std.proofs.lemmas.List.{length-map}
use Rattle.std.specs.Int.NonZero.{non_zero_usize_get}
use Rattle.ne_iter.specs.GroupBy.{HasRuns}
use Rattle.ne_iter.specs.Sources.{Reads}

pub returns-clause-runs : goal.returns-clause-runs
returns-clause-runs g c = IfOk-weaker c.in_ok-collect.field-0 _ _ (λ v h.
    let taken = c.take.ensures.gives true (map Ok v) h in
    subst (λ len. HasRuns (Reads g.S.IntoIterator.into_iter_gives g.S.IntoIter.Iterator.next_gives)
    g.G.FnMut g.K.PartialEq.eq (ltb len (non_zero_usize_get c.args.n)) c.args.source c.args.key
    v)
    (length-map v Ok) (c.group_by.ensures.gives.0 _ v taken.0))
    (c.results_are_read_whole.ensures c.take.result c.in_ok-collect.field-0
    c.in_ok-collect.ensures.gives)

pub returns-clause-count : goal.returns-clause-count
returns-clause-count g c = IfOk-weaker c.in_ok-collect.field-0 _ _ (λ v h.
    let taken = c.take.ensures.gives true (map Ok v) h in
    subst (λ len. len ≤ non_zero_usize_get c.args.n) (length-map v Ok) taken.1)
    (c.results_are_read_whole.ensures c.take.result c.in_ok-collect.field-0
    c.in_ok-collect.ensures.gives)
