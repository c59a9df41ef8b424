use Rattle.ne_iter.proofs.iter.non_empty.NonEmptyIterator.unzip.Given as goal
use Rattle.std.proofs.Common.{List, map, ◌++◌}

-- Each collection holds what it held before the loop, and the parts of the items s.
abbrev pub invariant-loop-a : goal.invariant-loop-a
invariant-loop-a g l = ((ps : List (g.row.A.Denot × g.row.B.Denot))
    → g.FromA.Singleton.collected (map (λ p. p.0) ps) l.initial.firsts
    → g.FromA.Singleton.collected (map (λ p. p.0) (ps ++ l.yielded)) l.firsts)
    × ((ps : List (g.row.A.Denot × g.row.B.Denot))
    → g.FromB.Singleton.collected (map (λ p. p.1) ps) l.initial.seconds
    → g.FromB.Singleton.collected (map (λ p. p.1) (ps ++ l.yielded)) l.seconds)
