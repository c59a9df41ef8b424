use Rattle.ne_vec.proofs.vector.map.map_each.Given as goal
use Rattle.ne_vec.proofs.Mapped.{Turn}

abbrev pub invariant-loop-i : goal.invariant-loop-i
invariant-loop-i g l = Turn g.F.FnMut l.initial.f l.initial.items l.f l.items l.i
