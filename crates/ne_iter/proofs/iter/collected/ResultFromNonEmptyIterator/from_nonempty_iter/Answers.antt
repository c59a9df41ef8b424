use Rattle.ne_iter.proofs.iter.collected.ResultFromNonEmptyIterator.from_nonempty_iter.Goals as goal
use Rattle.std.proofs.Common.{◌∷◌, ap, refl, ◌∙◌, false, true}
use Rattle.ne_iter.specs.Collected.{values_or_first_err}
use Rattle.ne_iter.proofs.PrefixesMade.{all_values, first_err_at}
use Rattle.ne_iter.specs.LoopLaws.{Reads-loop}

pub returns-in-Some : goal.returns-in-Some
returns-in-Some g c =
    let from = c.next-first.ensures.first in
    let made = c.in_ok-values.ensures in
    let then = rw c.in-Some.is at made.1 in
    let items = c.next-first.result.0 ∷ made.0 in (
      items,
      (g.met.I.IntoNonEmptyIterator.same_lists c.args.iter false items).1
          c.into_nonempty_iter.result c.into_nonempty_iter.ensures.into_nonempty_iter_gives
          record {
            it = from.0;
            made = from.1;
            given = (c.in_ok-values._rest, (c.next-first.result.1, from.2, then.0), λ w. cc w);
          },
      (
        c.in_ok-values.values.items,
        then.3,
        first_err_at items c.in_ok-values.values.items c.in-Some.e then.3,
      ),
    )

pub returns : goal.returns
returns g c =
    let from = c.next-first.ensures.first in
    let made = c.in_ok-values.ensures in
    let then = rw c.in-None.is at made.1 in
    let run = then.0 in
    let items = c.next-first.result.0 ∷ made.0 in
    let values = c.in_ok-values.values.items in (
      items,
      (g.met.I.IntoNonEmptyIterator.same_lists c.args.iter true items).1 c.into_nonempty_iter.result
          c.into_nonempty_iter.ensures.into_nonempty_iter_gives
          (Reads-loop from.0 run.0 c.in_ok-values._rest from.1 from.2 refl run.1 run.2),
      (
        values,
        then.1,
        ap values_or_first_err then.1 ∙ all_values values,
        c.in_ok-from_drained-in-None.ensures.made,
      ),
    )
