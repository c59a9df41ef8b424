use Rattle.user_generic.proofs.numbering.numbered_halves.Goals as goal
use Rattle.std.proofs.Common.{rules, sym, ap, subst, ◌∙◌, true, ◌++◌, ltb, ◌≤◌, map, take, ◌/◌}
use Rattle.std.specs.List.{enumerate_from}
use Rattle.std.specs.Int.NonZero.{non_zero_usize_get}
use Rattle.std.proofs.lemmas.List.FromFn.{length-enumerate_from}
use Rattle.std.proofs.lemmas.Result.{IfOk-weaker}
use Rattle.ne_vec.specs.Lists.{IsPrefix}

-- From the vectors' items forward through the adapters: the items so far are a prefix of each list.
pub returns : goal.returns
returns c = IfOk-weaker c.numbered.result _ _ (λ v h.
    let n = non_zero_usize_get c.args.n in
    let items = c.into_nonempty_iter.result in
    let first = c.first_items_stay_first.ensures in
    let vector = c.vectors_give_their_items.ensures items _ h.items h.read in
    let other = c.std_vectors_give_their_items.ensures c.args.other _ h.other_items h.read_other in
    let values = c.calls_of_a_function.ensures (λ x. x / 2) h.items h.results h.f_then
    (λ x r f called. search rules) h.called in
    let halves = subst (IsPrefix _ (map (λ x. x / 2) items)) (sym values.0)
    (first.mapped (λ x. x / 2) _ items h.items vector) in
    let joined = first.joined h.whole (map (λ x. x / 2) items) c.args.other.items h.results
    h.other_items halves other in
    let all = first.numbered h.whole (map (λ x. x / 2) items ++ c.args.other.items)
    (h.results ++ h.other_items) joined in
    let long = sym (length-enumerate_from 0 (h.results ++ h.other_items)) in
    let pairs = enumerate_from 0 (map (λ x. x / 2) items ++ c.args.other.items) in
    let numbered = enumerate_from 0 (h.results ++ h.other_items) in
    let taken = c.first_items_stay_first-2.ensures.taken n true pairs numbered
    (subst (λ len. len ≤ n) long h.at_most)
    (subst (λ w. IsPrefix w pairs numbered) (h.is_whole ∙ ap (λ len. ltb len n) long) all) in
    h.made ∙ c.first_items_stay_first-2.ensures.all (take n pairs) numbered taken
    ∙ ap (λ l. take n (enumerate_from 0 (map (λ x. x / 2) l ++ c.args.other.items)))
    c.into_nonempty_iter.ensures.into_nonempty_iter_gives.0) c.numbered.ensures
