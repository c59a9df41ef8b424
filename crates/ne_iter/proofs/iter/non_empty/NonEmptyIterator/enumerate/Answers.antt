use Rattle.ne_iter.proofs.iter.non_empty.NonEmptyIterator.enumerate.Goals as goal
use Rattle.std.proofs.Common.{subst, ◌≡◌}
use Rattle.std.specs.Iterator.Adapters.{enumerate_source}
use Rattle.std.specs.List.{enumerate_from}
use Rattle.ne_iter.proofs.Enumerate.{DrainsIf-enumerate, numbers_lists}

pub returns-clause-gives : goal.returns-clause-gives
returns-clause-gives g c whole ys h =
    let p = DrainsIf-enumerate g.Self.IntoIter.Iterator.next_gives h.it ys h.given in (
      p.0,
      record { it = enumerate_source h.it; made = h.made.0; given = p.1 },
      subst (λ n. ys ≡ enumerate_from n p.0) h.made.1 p.2,
    )

pub returns-clause-lists : goal.returns-clause-lists
returns-clause-lists g c =
    numbers_lists g.Self.NonEmptyIterator.item_view (returns-clause-gives g c)
