use Rattle.ne_products.proofs.products.NonEmptyItertools.counts.Given as goal
use Rattle.ne_products.proofs.Counted.{CountsSoFar}

-- The items so far are counted, and their number fits.
abbrev pub invariant-loop-x : goal.invariant-loop-x
invariant-loop-x g l = let it = g.Self.IntoIter.Iterator in
    CountsSoFar g.met.M.KeyedMap.equivalence g.M.KeyedMap.key_view.of it.next_gives it.can_next
    it.remaining (g.M.KeyedMap.value l.initial.counts) l.yielded l.x-iterator
    (g.M.KeyedMap.value l.counts)
