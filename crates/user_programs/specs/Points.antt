-- Half-open intervals and the points that they cover. A set of intervals is seen as the list of its
-- starts with their ends, in ascending order of the starts.
use Rattle.std.specs.Prelude.{◌≡◌, ◌<◌, ◌≤◌, ◌-◌, ◌^◌, ◌↔◌, ℕ, List, Option, Some, map, sum}
use Rattle.std.specs.Prelude.{length, Contains}
use Rattle.std.specs.BTreeMap.{is_at}
use Rattle.std.specs.List.Sorted.{IsStrictlySortedBy}
use Rattle.std.specs.Map.{lookup, remove_entry}
use Rattle.std.specs.Ordering.{nat_cmp}

-- The end of the interval with this start, if there is one.
abbrev pub end_of : List (ℕ × ℕ) → ℕ → Option ℕ
end_of s start = lookup (is_at (nat_cmp start)) s

-- The intervals without the one with this start, in the same order.
abbrev pub without : ℕ → List (ℕ × ℕ) → List (ℕ × ℕ)
without start s = remove_entry (is_at (nat_cmp start)) s

-- x is a point of the interval from start to before end.
abbrev pub IsWithin : ℕ → ℕ → ℕ → Type 0
IsWithin start end x = (start ≤ x) × (x < end)

-- Some interval of the set has the point x.
abbrev pub Covers : List (ℕ × ℕ) → ℕ → Type 0
Covers s x = (start : ℕ) × (end : ℕ) × (end_of s start ≡ Some end) × IsWithin start end x

-- The starts ascend. Each interval has a point, ends below 2 ^ 64, and ends before any later start.
-- The list s is a set of intervals, with at least one.
pub record IsIntervalSet (s : List (ℕ × ℕ)) : Type 0 where
  pub nonempty : 0 < length s
  pub rising : IsStrictlySortedBy nat_cmp (map (λ p. p.0) s)
  pub some : (start end : ℕ) → end_of s start ≡ Some end → start < end
  pub apart : (start end later its_end : ℕ) → end_of s start ≡ Some end
      → end_of s later ≡ Some its_end → start < later → end < later
  pub fits : (start end : ℕ) → end_of s start ≡ Some end → end < 2 ^ 64

-- s covers all points from low to before start. Intervals that start before low end before low.
pub record IsJoinedStart (s : List (ℕ × ℕ)) (start low : ℕ) : Type 0 where
  pub before : low ≤ start
  pub covered : (x : ℕ) → low ≤ x → x < start → Covers s x
  pub gap : (other its_end : ℕ) → end_of s other ≡ Some its_end → other < low → its_end < low

-- s covers all points from end to before high. Intervals that start up to high end up to high.
pub record IsJoinedEnd (s : List (ℕ × ℕ)) (end high : ℕ) : Type 0 where
  pub after : end ≤ high
  pub covered : (x : ℕ) → end ≤ x → x < high → Covers s x
  pub inside : (other its_end : ℕ) → end_of s other ≡ Some its_end → other ≤ high → its_end ≤ high

-- The list has each covered point once, in order.
pub record ArePoints (s : List (ℕ × ℕ)) (points : List ℕ) : Type 0 where
  pub rising : IsStrictlySortedBy nat_cmp points
  pub each : (x : ℕ) → Contains points x ↔ Covers s x

-- How many points an interval has.
abbrev pub length_of : ℕ × ℕ → ℕ
length_of p = p.1 - p.0

-- How many points all intervals have.
abbrev pub total_of : List (ℕ × ℕ) → ℕ
total_of s = sum (map length_of s)
