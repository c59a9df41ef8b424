-- The points of the intervals of a set, one after another: each covered point once.
use Rattle.std.proofs.Common.{◌≡◌, ◌<◌, ◌≤◌, ◌+◌, ◌-◌, ℕ, zero, suc, refl}
use Rattle.std.proofs.Common.{List, [], ◌∷◌, ◌++◌, length, sym, ap₂, ◌∙◌, arith}
use Rattle.std.proofs.Common.{length-append, Less}
use Rattle.std.proofs.lemmas.List.Elements.{Contains-append_left, Contains-append_right}
use Rattle.std.proofs.lemmas.List.Elements.{Contains-append_cases}
use Rattle.std.proofs.lemmas.List.FromFn.{get_or-range_with_len, length-range_with_len}
use Rattle.std.proofs.lemmas.List.Sums.{sum-map, sum_by-append}
use Rattle.std.specs.List.{AllByRecursion, range_with_len}
use Rattle.std.specs.List.Sorted.{IsStrictlySortedBy}
use Rattle.std.specs.Ordering.{nat_cmp}
use Rattle.std.specs.Prelude.{⊤, Contains, Some}
use Rattle.user_programs.proofs.Lookups.{behind, first, later, starts, which, Follow}
use Rattle.user_programs.specs.Points.{end_of, length_of, total_of, ArePoints, Covers}
use Rattle.user_programs.specs.Points.{IsIntervalSet, IsWithin}
use mathlib.Core.Logic.{inl, inr}

is_less : (m n : ℕ) → m < n → nat_cmp m n ≡ Less
is_less m n h = grind arith

-- The intervals are from lo on and below hi.
-- Each interval has a point, and starts where the previous one ends or later.
abbrev Rise : ℕ → ℕ → List (ℕ × ℕ) → Type 0
Rise lo hi [] = ⊤
Rise lo hi (p ∷ s) = (lo ≤ p.0) × (p.0 < p.1) × (p.1 < hi) × Rise p.1 hi s

rise : (lo hi : ℕ) (s : List (ℕ × ℕ)) → IsStrictlySortedBy nat_cmp (starts s)
    → ((start end : ℕ) → end_of s start ≡ Some end → start < end)
    → ((start end next its_end : ℕ) → end_of s start ≡ Some end → end_of s next ≡ Some its_end
    → start < next → end < next)
    → ((start end : ℕ) → end_of s start ≡ Some end → end < hi)
    → ((start end : ℕ) → end_of s start ≡ Some end → lo ≤ start) → Rise lo hi s
unfolding IsStrictlySortedBy
rise lo hi [] sorted some apart fits from = tt
rise lo hi (p ∷ s) sorted some apart fits from = (
  from p.0 p.1 (first p s),
  some p.0 p.1 (first p s),
  fits p.0 p.1 (first p s),
  rise p.1 hi s sorted.1 (λ a b is. some a b (behind p s a b sorted.0 is))
      (λ a b c d is also. apart a b c d (behind p s a b sorted.0 is) (behind p s c d sorted.0 also))
      (λ a b is. fits a b (behind p s a b sorted.0 is))
      (λ a b is. omega (
        arith,
        apart p.0 p.1 a b (first p s) (behind p s a b sorted.0 is)
            (later p.0 s a b sorted.0 is),
      )),
)

pub set_rises : (s : List (ℕ × ℕ)) → IsIntervalSet s → Rise 0 18446744073709551616 s
set_rises s set =
    rise 0 18446744073709551616 s set.rising set.some set.apart set.fits (λ a b is. omega arith)

total_more : (p : ℕ × ℕ) (s : List (ℕ × ℕ)) → total_of (p ∷ s) ≡ length_of p + total_of s
total_more p s =
    omega (
      arith,
      sum-map length_of (p ∷ s),
      sum_by-append length_of (p ∷ []) s,
      sum-map length_of s,
    )

room : (lo hi : ℕ) (s : List (ℕ × ℕ)) → lo < hi → Rise lo hi s → total_of s + lo < hi
room lo hi [] order h = omega (arith, order)
room lo hi (p ∷ s) order h =
    let more = room p.1 hi s h.2 h.3 in omega (arith, h.0, h.1, more, total_more p s)

pub total_fits : (s : List (ℕ × ℕ)) → IsIntervalSet s → total_of s < 18446744073709551616
total_fits s set =
    let fits = room 0 18446744073709551616 s (omega arith) (set_rises s set) in omega (arith, fits)

-- The points of an interval.
abbrev run : ℕ × ℕ → List ℕ
run p = range_with_len p.0 (length_of p)

abbrev points : List (ℕ × ℕ) → List ℕ
points [] = []
points (p ∷ s) = run p ++ points s

count : (s : List (ℕ × ℕ)) → length (points s) ≡ total_of s
count [] = refl
count (p ∷ s) =
    length-append (run p) (points s)
    ∙ ap₂ (λ m n. m + n) (length-range_with_len p.0 (length_of p)) (count s)
    ∙ sym (total_more p s)

abbrev AtLeast : ℕ → List ℕ → Type 0
AtLeast k ks = AllByRecursion (λ y. k ≤ y) ks

follow : (j k : ℕ) (ks : List ℕ) → j < k → AtLeast k ks → Follow j ks
follow j k [] order h = tt
follow j k (y ∷ ks) order h =
    (is_less j y (omega (arith, order, h.0)), follow j k ks order h.1)

weaker : (j k : ℕ) (ks : List ℕ) → j ≤ k → AtLeast k ks → AtLeast j ks
weaker j k [] order h = tt
weaker j k (y ∷ ks) order h = (omega (arith, order, h.0), weaker j k ks order h.1)

run_from : (k a n : ℕ) (ks : List ℕ) → k ≤ a → AtLeast k ks → AtLeast k (range_with_len a n ++ ks)
run_from k a zero ks order h = h
run_from k a (suc n) ks order h = (order, run_from k (a + 1) n ks (omega (arith, order)) h)

run_rises : (a n : ℕ) (ks : List ℕ) → AtLeast (a + n) ks → IsStrictlySortedBy nat_cmp ks
    → IsStrictlySortedBy nat_cmp (range_with_len a n ++ ks)
unfolding IsStrictlySortedBy
run_rises a zero ks from sorted = sorted
run_rises a (suc n) ks from sorted = (
  follow a (a + 1) (range_with_len (a + 1) n ++ ks) (omega arith)
      (run_from (a + 1) (a + 1) n ks (omega arith)
      (weaker (a + 1) (a + suc n) ks (omega arith) from)),
  run_rises (a + 1) n ks (weaker (a + 1 + n) (a + suc n) ks (omega arith) from) sorted,
)

points_from : (lo hi : ℕ) (s : List (ℕ × ℕ)) → Rise lo hi s → AtLeast lo (points s)
points_from lo hi [] h = tt
points_from lo hi (p ∷ s) h =
    run_from lo p.0 (length_of p) (points s) h.0
    (weaker lo p.1 (points s) (omega (arith, h.0, h.1)) (points_from p.1 hi s h.3))

points_rise : (lo hi : ℕ) (s : List (ℕ × ℕ)) → Rise lo hi s
    → IsStrictlySortedBy nat_cmp (points s)
unfolding IsStrictlySortedBy
points_rise lo hi [] h = tt
points_rise lo hi (p ∷ s) h =
    run_rises p.0 (length_of p) (points s)
    (weaker (p.0 + length_of p) p.1 (points s) (omega (arith, h.1)) (points_from p.1 hi s h.3))
    (points_rise p.1 hi s h.3)

in_run : (a n x : ℕ) → Contains (range_with_len a n) x → IsWithin a (a + n) x
in_run a n x h =
    let place : h.0 < n = omega (arith, h.1, length-range_with_len a n) in
    let is = get_or-range_with_len a n h.0 x place in
    (omega (arith, is, h.2), omega (arith, is, h.2, place))

has_run : (a n x : ℕ) → IsWithin a (a + n) x → Contains (range_with_len a n) x
has_run a n x h =
    let place : x - a < n = omega (arith, h.0, h.1) in (
      x - a,
      omega (arith, place, length-range_with_len a n),
      get_or-range_with_len a n (x - a) x place ∙ omega (arith, h.0),
    )

covered : (lo hi : ℕ) (s : List (ℕ × ℕ)) (x : ℕ) → IsStrictlySortedBy nat_cmp (starts s)
    → Rise lo hi s → Contains (points s) x → Covers s x
unfolding IsStrictlySortedBy
covered lo hi [] x sorted h there = absurd (omega (arith, there.1))
covered lo hi (p ∷ s) x sorted h there =
    elim (Contains-append_cases (run p) (points s) x there) [
      | inl this ↦
          let within = in_run p.0 (length_of p) x this in
          (p.0, p.1, first p s, (within.0, omega (arith, within.1, h.1)))
      | inr others ↦
          let found = covered p.1 hi s x sorted.1 h.3 others in
          (found.0, found.1, behind p s found.0 found.1 sorted.0 found.2, found.3)
    ]

listed : (lo hi : ℕ) (s : List (ℕ × ℕ)) (x : ℕ) → Rise lo hi s → Covers s x
    → Contains (points s) x
listed lo hi [] x h (start, end, is, within) = absurd (cc)
listed lo hi (p ∷ s) x h (start, end, is, within) =
    elim (which p s start end is) [
      | inl this ↦ Contains-append_left (run p) (points s) x (has_run p.0 (length_of p) x (
        omega (arith, this.0, within.0),
        omega (arith, this.1, within.1, h.1),
      ))
      | inr others ↦ Contains-append_right (run p) (points s) x
          (listed p.1 hi s x h.3 (start, end, others, within))
    ]

pub points_counted : (s : List (ℕ × ℕ)) → IsIntervalSet s
    → (all : List ℕ) × ArePoints s all × (total_of s ≡ length all)
points_counted s set =
    let h = set_rises s set in (
      points s,
      record {
        rising = points_rise 0 18446744073709551616 s h;
        each = λ x. (
          covered 0 18446744073709551616 s x set.rising h,
          listed 0 18446744073709551616 s x h,
        );
      },
      sym (count s),
    )
