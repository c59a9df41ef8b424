use Rattle.ne_iter.proofs.laws.sources.arrays_give_their_items.Goals as goal
use Rattle.std.proofs.Common.{sym, ◌∙◌}
use Rattle.std.specs.Array.Iter.{array_into_iter_items, array_steps}
use Rattle.std.proofs.lemmas.List.{nil_from_length}
use Rattle.ne_vec.specs.ListLaws.{is_prefix}

pub returns : goal.returns
returns g c a whole ys h =
    let m = is_prefix array_steps array_into_iter_items (λ s t x st. st)
    (λ s t st. nil_from_length (array_into_iter_items s) st.0) h.it ys h.given in
    (m.0, sym h.made.0 ∙ m.1, m.2)
