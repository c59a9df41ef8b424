use Rattle.user_generic.proofs.runs.run_lengths.Goals as goal
use Rattle.std.proofs.Common.{rules, sym, subst, true, ◌∙◌, length}
use Rattle.std.proofs.lemmas.Result.{IfOk-weaker}
use Rattle.ne_vec.specs.Divisions.{IsDivision, by_previous}
use Rattle.ne_vec.specs.SliceRuns.{ActsAsAtPair}

-- From the lengths back to the runs that were yielded, which are all runs.
pub returns : goal.returns
returns g c = IfOk-weaker c.collect.result _ _ (λ v h test acts.
    let holds = c.adjacent_runs.ensures.holds in
    let still = subst (λ s. ActsAsAtPair g.F.Fn s.closure test) (sym holds) acts in
    let law = c.slice_runs_are_the_division.ensures.by_previous in
    let runs = law c.adjacent_runs.result test still in
    let mapped = c.map.ensures.gives _ h.0 h.1 in
    let all = sym (c.first_items_stay_first.ensures.all runs.0 mapped.items
    (runs.2 true mapped.items mapped.read)) in
    let lengths = c.calls_of_a_function.ensures length mapped.items h.0 mapped.f_then
    (λ run n f called. search rules) mapped.called in (
      mapped.items,
      subst (λ rs. IsDivision (by_previous test) c.args.items.now rs) all
          (subst (λ s. IsDivision (by_previous test) s.left runs.0) holds runs.1),
      h.2 ∙ lengths.0,
    )) c.collect.ensures.gives
