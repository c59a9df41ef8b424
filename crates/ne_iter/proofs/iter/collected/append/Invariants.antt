use Rattle.ne_iter.proofs.iter.collected.append.Given as goal
use Rattle.std.proofs.Common.{◌≡◌, ◌++◌, List}
use Rattle.std.specs.Iterator.{IsFinite, Yields, items_left}

-- The items are those that were there and those that came.
abbrev pub invariant-loop-item : goal.invariant-loop-item
invariant-loop-item g l = (yielded : List g.row.T.Denot)
    × Yields g.I.Iterator.next_gives l.initial.rest yielded l.rest
    × (l.items.items ≡ l.initial.items.items ++ yielded)
    × g.I.Iterator.can_next l.rest × IsFinite (g.I.Iterator.remaining l.rest)

abbrev pub decreases-loop-item : goal.decreases-loop-item
decreases-loop-item g l = items_left g.I.Iterator.remaining l.rest
