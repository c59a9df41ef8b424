use Rattle.ne_laws.proofs.reader.take_runs.Given as goal
use Rattle.std.proofs.Common.{◌≤◌, ◌-◌, length, vec_len, ◌≡◌}
use Rattle.std.specs.Iterator.{CallableOnAllAt}
use Rattle.nonempty_collections.specs.GroupBy.{by_key}
use Rattle.nonempty_collections.specs.GroupingRuns.{HasRead, CanRead, IsUnread}

-- The reader began with the source that the first reader of the loop had.
abbrev pub invariant-loop-reader : goal.invariant-loop-reader
invariant-loop-reader g l =
    g.I.IntoIterator.into_iter_gives l.fn.iter l.initial.reader.source
    × HasRead g.I.IntoIter.Iterator.next_gives (by_key g.F.FnMut g.K.PartialEq.eq)
    l.initial.reader.source l.fn.key l.runs.items l.reader
    × (vec_len l.runs ≡ length l.runs.items)
    × (length l.runs.items ≤ l.k)
    × (length l.runs.items ≡ 0 → IsUnread l.reader)
    × CanRead g.I.IntoIter.Iterator.can_next g.I.IntoIter.Iterator.remaining
    (λ _ s f. CallableOnAllAt g.I.IntoIter.Iterator.next_gives g.F.FnMut s f) l.reader

abbrev pub decreases-loop-reader : goal.decreases-loop-reader
decreases-loop-reader g l = l.k - length l.runs.items
