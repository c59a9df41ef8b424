use Rattle.ne_runs.proofs.texts.text_by_first.Goals as goal
use Rattle.std.proofs.Common.{true, refl, sym, ap, subst, ◌∙◌, ◌++◌, append-nil}
use Rattle.std.proofs.lemmas.Result.{IfOk-weaker}
use Rattle.nonempty_collections.specs.Divisions.{IsDivision, by_first}
use Rattle.nonempty_collections.specs.SliceRuns.{ActsAsAtPair}

pub returns : goal.returns
returns g c = IfOk-weaker c.text_of_runs.result _ _ (λ text made h acts.
    let runs = c.runs_by.result in
    let holds = c.runs_by.ensures.holds in
    let acts_here = subst (λ s. ActsAsAtPair g.F.Fn s.closure h) (sym holds) acts in
    let whole = c.slice_runs_are_the_division.ensures.by_first runs h acts_here in
    let prefix = whole.2 true made.rows made.holds in
    let rows = prefix.1 ∙ ap (λ l. made.rows ++ l) (prefix.2 refl) ∙ append-nil made.rows in
    let numbers = ap (λ s. s.left) holds ∙ c.as_nonempty_slice-items.ensures in
    let divided = subst (λ rs. IsDivision (by_first h) runs.left rs) rows whole.1 in
    let of_numbers = subst (λ xs. IsDivision (by_first h) xs made.rows) numbers divided in
    record { rows = made.rows; holds = of_numbers; written = made.written }) c.text_of_runs.ensures
