use Rattle.user_generic.proofs.inner_sources.spread_countdown.Goals as goal
use Rattle.std.proofs.Common.{rules, sym, ap, subst, ◌∙◌, ◌∷◌, [], ltb, ◌≤◌, true, map, take}
use Rattle.std.specs.Prelude.{ℕ, flat_map}
use Rattle.std.specs.Int.NonZero.{non_zero_usize_get}
use Rattle.std.specs.List.{enumerate_from}
use Rattle.std.proofs.lemmas.List.Folds.{flat_map-map}
use Rattle.std.proofs.lemmas.List.FromFn.{length-enumerate_from}
use Rattle.std.proofs.lemmas.Result.{IfOk-weaker}
use Rattle.ne_vec.specs.Divisions.{concat}
use Rattle.ne_vec.specs.Lists.{IsPrefix}
use Rattle.user_generic.specs.OwnSources.{counted_down, start_of, left_of}

pub returns : goal.returns
returns c = IfOk-weaker c.spread.result _ _ (λ v h.
    let n = non_zero_usize_get c.args.n in
    let twice = λ (x : ℕ). x ∷ x ∷ [] in
    let down = counted_down (start_of c.args.source) in
    let items = concat h.joins.lists in
    let numbers = c.sources_give_what_is_left.ensures (λ it. counted_down (left_of it))
    (λ it rest x came. came) (λ it rest ended. ended.0) c.args.source down
    (λ it made. ap counted_down made) h.whole h.items h.read in
    let values = c.calls_of_a_function.ensures twice h.items h.joins.sources h.joins.f_then
    (λ x r f called. search rules) h.joins.called in
    let results = subst (IsPrefix h.whole (map twice down)) (sym values.0)
    (c.first_items_stay_first.ensures.mapped twice h.whole down h.items numbers) in
    let follow = subst (λ l. IsPrefix h.whole l items) (flat_map-map (λ l. l) twice down)
    (c.lists_follow_one_another.ensures (λ l. l) c.arrays_give_their_items.ensures h.whole
    (map twice down) h.joins.sources h.joins.lists results h.joins.read_each) in
    let all = c.first_items_stay_first.ensures.numbered h.whole (flat_map twice down) items follow
    in
    let long = sym (length-enumerate_from 0 items) in
    let pairs = enumerate_from 0 (flat_map twice down) in
    let numbered = enumerate_from 0 items in
    let taken = c.first_items_stay_first-2.ensures.taken n true pairs numbered
    (subst (λ len. len ≤ n) long h.joins.at_most)
    (subst (λ w. IsPrefix w pairs numbered) (h.joins.is_whole ∙ ap (λ len. ltb len n) long) all) in
    h.joins.made ∙ c.first_items_stay_first-2.ensures.all (take n pairs) numbered taken)
    c.spread.ensures
