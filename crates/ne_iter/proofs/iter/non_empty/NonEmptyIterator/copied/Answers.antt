use Rattle.ne_iter.proofs.iter.non_empty.NonEmptyIterator.copied.Goals as goal
use Rattle.std.proofs.Common.{◌≡◌, true}
use Rattle.std.specs.Iterator.Adapters.{copied_source}
use Rattle.ne_vec.specs.ListLaws.{triggered}
use Rattle.ne_iter.proofs.Copied.{DrainsIf-copied, copied_list}
use Rattle.ne_iter.specs.LoopLaws.{reads_through}
use Rattle.ne_iter.proofs.SourceLists.{read_lists}

pub returns-clause-gives : goal.returns-clause-gives
returns-clause-gives g c whole ys h =
    let p = DrainsIf-copied (whole ≡ true) g.Self.IntoIter.Iterator.next_gives h.it ys h.given in
    (p.0, record { it = copied_source h.it; made = h.made; given = p.1 }, p.2)

pub returns-clause-lists : goal.returns-clause-lists
returns-clause-lists g c xs shows = (
  triggered _ xs,
  read_lists _ _ _ xs
      (copied_list (returns-clause-gives g c) xs (reads_through _ _ _ (λ y. y.now) xs shows)),
)
