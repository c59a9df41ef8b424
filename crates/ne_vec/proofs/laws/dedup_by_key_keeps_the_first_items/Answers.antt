use Rattle.ne_vec.proofs.laws.dedup_by_key_keeps_the_first_items.Goals as goal
use Rattle.std.proofs.Common.{ap, sym, subst, ◌∙◌}
use Rattle.std.specs.Fn.{CalledAtMut}
use Rattle.ne_vec.specs.Divisions.{by_first, heads}

pub returns : goal.returns
returns g c =
    let eq = g.K.PartialEq.eq in
    record {
      compares = λ f read pure x y r f' y' x' h.
          let one = pure y h.key h.between y' h.first in
          let two = pure x h.other f' x' (subst (λ s. CalledAtMut g.F.FnMut s x h.other f' x') one.0
          h.second) in (
            two.0,
            h.compared ∙ ap (λ k. eq k h.other) one.1 ∙ ap (eq (read y)) two.1
                ∙ g.met.K.PartialEq.laws.symm (read y) (read x),
            one.2,
            two.2,
          );
      firsts = λ same xs ys runs keeps divides.
          keeps.0 ∙ sym (ap heads
          (c.computed_runs_are_the_division.ensures.only by_first same xs runs divides));
    }
