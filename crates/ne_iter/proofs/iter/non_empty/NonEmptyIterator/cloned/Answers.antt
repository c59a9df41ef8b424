use Rattle.ne_iter.proofs.iter.non_empty.NonEmptyIterator.cloned.Goals as goal
use Rattle.std.proofs.Common.{◌≡◌, true}
use Rattle.std.specs.Prelude.{map, Ok}
use Rattle.ne_vec.specs.ListLaws.{triggered}
use Rattle.ne_iter.specs.Cloned.{TriesClone}
use Rattle.ne_iter.proofs.Cloned.{DrainsIf-cloned, cloned_list}
use Rattle.ne_iter.proofs.PrefixesMade.{all_values}
use Rattle.ne_iter.specs.LoopLaws.{reads_through}
use Rattle.ne_iter.proofs.SourceLists.{read_lists}

pub returns-clause-gives : goal.returns-clause-gives
returns-clause-gives g c whole ys h =
    let p = DrainsIf-cloned (whole ≡ true) g.Self.IntoIter.Iterator.next_gives
    (TriesClone g.T.Clone.is_clone g.T.Clone.is_infallible) h.it ys h.given in
    (p.0, record { it = h.it.iter; made = h.made; given = p.1 }, p.2)

pub returns-clause-lists : goal.returns-clause-lists
returns-clause-lists g c xs shows = (
  triggered _ xs,
  λ none same. (
    all_values xs,
    read_lists _ _ _ (map Ok xs)
        (cloned_list g.T.Clone.is_clone g.T.Clone.is_infallible (returns-clause-gives g c) xs none
        same (reads_through _ _ _ (λ y. y.now) xs shows)),
  ),
)
