use Rattle.user_programs.proofs.intervals.replace.Given as goal
use Rattle.std.proofs.Common.{◌≡◌, ◌<◌, ℕ}
use Rattle.std.specs.BTreeMap.{btree_map_len}
use Rattle.std.specs.Ordering.{nat_cmp}
use Rattle.std.specs.Prelude.{Some}
use Rattle.nonempty_collections.specs.ValidTreeMap.{IsValid}
use Rattle.user_programs.specs.Points.{end_of}

-- The new interval is in the set, and the intervals that start before or after it are unchanged.
abbrev pub invariant-loop-start : goal.invariant-loop-start
invariant-loop-start l = record {
  at : end_of l.map.entries l.low ≡ Some l.high;
  below : (start : ℕ) → start < l.low
      → end_of l.map.entries start ≡ end_of l.fn.map.entries start;
  above : (start : ℕ) → l.high < start
      → end_of l.map.entries start ≡ end_of l.fn.map.entries start;
  valid : IsValid nat_cmp l.map;
}

abbrev pub decreases-loop-start : goal.decreases-loop-start
decreases-loop-start l = btree_map_len l.map
