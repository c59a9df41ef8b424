use Rattle.ne_iter.proofs.iter.non_empty.NonEmptyIterator.take.Goals as goal
use Rattle.std.proofs.Common.{rules, subst, ◌≤◌, length}
use Rattle.std.specs.Iterator.Adapters.{take_source}
use Rattle.ne_iter.proofs.Take.{DrainsIf-take, takes_lists}
use Rattle.ne_iter.proofs.Zip.{both_true}

pub returns-clause-gives : goal.returns-clause-gives
returns-clause-gives g c whole xs h =
    let p = DrainsIf-take g.Self.IntoIter.Iterator.next_gives h.it xs h.given in (
      record {
        it = take_source h.it;
        made = h.made.0;
        given = (
          p.0.0,
          p.0.1,
          λ w. let b = both_true whole _ w in
              p.0.2 (b.0, (let e = h.made.1 in let l = b.1 in search rules)),
        );
      },
      subst (λ n. length xs ≤ n) h.made.1 p.1,
    )

pub returns-clause-lists : goal.returns-clause-lists
returns-clause-lists g c =
    takes_lists g.Self.NonEmptyIterator.item_view (returns-clause-gives g c)
