use Rattle.ne_iter.proofs.iter.collected.values_until_err.Given as goal
use Rattle.std.proofs.Common.{◌≡◌, ◌<◌, ◌++◌, List, map, vec_len}
use Rattle.std.specs.Prelude.{Result, Ok}
use Rattle.std.specs.Iterator.{IsFinite, Yields, items_left}

-- The values are that of the first item and those of the items so far.
abbrev pub invariant-loop-value : goal.invariant-loop-value
invariant-loop-value g l = (yielded : List (Result g.row.T.Denot g.row.E.Denot))
    × Yields g.I.Iterator.next_gives l.initial.rest yielded l.rest
    × (map Ok l.values.items ≡ map Ok l.initial.values.items ++ yielded)
    × g.I.Iterator.can_next l.rest × IsFinite (g.I.Iterator.remaining l.rest)
    × (0 < vec_len l.values)

abbrev pub decreases-loop-value : goal.decreases-loop-value
decreases-loop-value g l = items_left g.I.Iterator.remaining l.rest
