use Rattle.ne_iter.proofs.iter.collected.fill.Given as goal
use Rattle.std.proofs.Common.{◌≡◌, ◌++◌}
use Rattle.std.proofs.iter.Next.{Ran}
use Rattle.std.specs.Iterator.{EndsFrom, items_left}

-- The items are those that were there and those of the items so far.
abbrev pub invariant-loop-item : goal.invariant-loop-item
invariant-loop-item g l = Ran g.I.Iterator.can_next (EndsFrom g.I.Iterator.remaining)
    (items_left g.I.Iterator.remaining) g.I.Iterator.next_gives
    (λ xs. l.items.items ≡ l.initial.items.items ++ xs) l.initial.rest l.rest

abbrev pub decreases-loop-item : goal.decreases-loop-item
decreases-loop-item g l = items_left g.I.Iterator.remaining l.rest
