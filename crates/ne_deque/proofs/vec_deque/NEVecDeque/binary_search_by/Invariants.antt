use Rattle.ne_deque.proofs.vec_deque.NEVecDeque.binary_search_by.Given as goal
use Rattle.std.proofs.Common.{◌<◌, ◌≤◌, ◌+◌, length}
use Rattle.std.specs.declared.cmp.Ordering.{Ordering}
use Rattle.std.specs.Fn.{ComputesKey}
use Rattle.ne_vec.specs.Searches.{CallableAtItems}
use Rattle.core.proofs.slice.Searches.{Narrowed}

abbrev pub invariant-loop-size : goal.invariant-loop-size
invariant-loop-size g l = record {
  some : 0 < l.size;
  inside : l.base + l.size ≤ length l.items.items;
  callable : CallableAtItems g.F.FnMut l.f l.items.items;
  narrowed : (order : g.row.T.Denot → Ordering) → ComputesKey g.F.FnMut order l.fn.f
      → ComputesKey g.F.FnMut order l.f × Narrowed order l.items.items l.base l.size;
}

abbrev pub decreases-loop-size : goal.decreases-loop-size
decreases-loop-size g l = l.size
