use Rattle.ne_iter.proofs.iter.flatten.append_source.Given as goal
use Rattle.std.proofs.Common.{◌≡◌, ◌++◌, ◌+◌, ◌≤◌, List, vec_len}
use Rattle.std.specs.Prelude.{vec_capacity}
use Rattle.std.specs.Iterator.{IsFinite, Yields}

-- The items are those that were there and those that came, with room for those that are promised.
abbrev pub invariant-loop : goal.invariant-loop
invariant-loop g l = (yielded : List g.row.T.Denot)
    × Yields g.U.IntoIter.Iterator.next_gives l.initial.rest yielded l.rest
    × (l.items.items ≡ l.initial.items.items ++ yielded)
    × (vec_len l.items + l.promised ≤ vec_capacity l.items + l.counter)
    × g.U.IntoIter.Iterator.can_next l.rest × IsFinite (g.U.IntoIter.Iterator.remaining l.rest)
