use Rattle.ne_vec.proofs.vector.retain.move_kept_to_front.Given as goal
use Rattle.std.proofs.Common.{◌≤◌, ◌<◌, ◌-◌, drop, length}
use Rattle.std.specs.Fn.{CalledAtMut}
use Rattle.std.proofs.RetainMut.{RetainMutInvariant}
use Rattle.ne_vec.proofs.Sifts.{InTurn}

abbrev pub invariant-loop-kept : goal.invariant-loop-kept
invariant-loop-kept g l = record {
  low : l.kept ≤ l.seen;
  within : l.seen ≤ length l.items;
  turns : InTurn g.F.FnMut l.f (drop l.seen l.items);
  sifted : RetainMutInvariant (CalledAtMut g.F.FnMut) l.initial.f l.initial.items l.f l.items
      l.kept l.seen;
}

abbrev pub decreases-loop-kept : goal.decreases-loop-kept
decreases-loop-kept g l = length l.items - l.seen

-- Once an item has gone, the items that stay move.
abbrev pub invariant-loop-i : goal.invariant-loop-i
invariant-loop-i g l = record {
  low : l.kept ≤ l.i;
  gone : l.i < length l.items → l.kept < l.i;
  turns : InTurn g.F.FnMut l.f (drop l.i l.items);
  sifted : RetainMutInvariant (CalledAtMut g.F.FnMut) l.fn.f l.fn.items l.f l.items
      l.kept l.i;
}
