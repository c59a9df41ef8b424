use Rattle.ne_iter.proofs.iter.flatten.append_each.Given as goal
use Rattle.std.proofs.Common.{◌≡◌, ◌++◌, List, true}
use Rattle.std.specs.Iterator.{IsFinite, Yields, items_left}
use Rattle.std.specs.Iterator.Adapters.{InnersAreFinite}
use Rattle.ne_vec.specs.Divisions.{concat}
use Rattle.ne_iter.specs.Flatten.{ReadsEach}
use Rattle.ne_iter.specs.Sources.{Reads}

-- The items are those that were there and the lists of the sources that came.
abbrev pub invariant-loop-source : goal.invariant-loop-source
invariant-loop-source g l = (us : List g.row.U.Denot) × (yss : List (List g.row.T.Denot))
    × Yields g.I.Iterator.next_gives l.initial.sources us l.sources
    × ReadsEach (Reads g.U.IntoIterator.into_iter_gives g.U.IntoIter.Iterator.next_gives) true us
    yss
    × (l.items.items ≡ l.initial.items.items ++ concat yss)
    × g.I.Iterator.can_next l.sources × IsFinite (g.I.Iterator.remaining l.sources)
    × InnersAreFinite g.I.Iterator.next_gives g.U.IntoIterator.into_iter_gives
    g.U.IntoIter.Iterator.can_next g.U.IntoIter.Iterator.remaining l.sources

abbrev pub decreases-loop-source : goal.decreases-loop-source
decreases-loop-source g l = items_left g.I.Iterator.remaining l.sources
