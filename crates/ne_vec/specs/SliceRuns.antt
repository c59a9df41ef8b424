-- The runs of a slice, in order, for a closure that compares two items. `place` is `by_first` or
-- `by_previous`: it makes of a test of two items the test of whether an item continues a run. What
-- `next` takes is a run if the closure acts as a test, and is not empty with any other closure.
use Rattle.std.specs.Prelude.{◌≡◌, ◌≢◌, ℕ, ◌^◌, ◌<◌, length, Bool, List, [], ◌++◌, take, drop}
use Rattle.std.specs.Prelude.{Option, MatchOption, All, map, slice_index_or}
use Rattle.std.specs.Borrow.{Bor}
use Rattle.std.specs.Fn.{Shared, FnReturnsAtPair}
use Rattle.ne_vec.specs.Divisions.{IsRun, Breaks, heads, runs_of}
use Rattle.ne_vec.specs.Lists.{Listed, Naming}

-- The first n items of xs are its first run.
abbrev pub IsFirstRun : {A : Type 0} → (List A → A → Bool) → List A → ℕ → Type 0
IsFirstRun goes_on xs n = IsRun goes_on (take n xs) × Breaks goes_on (take n xs) (drop n xs)

-- The items that are left to be divided, and the closure that compares two of them.
pub record Cutting (A F : Type 0) : Type 0 where
  pub left : List A
  pub closure : F

-- The source s of runs becomes the iterator `it`. The number of its items fits in a `usize`, and so
-- does the number of runs.
abbrev pub BecomesCutter : {A F : Type 0} → Cutting A F → Cutting A F → Type 0
BecomesCutter s it = (0 < length s.left) × (length s.left < 2 ^ 64) × (it ≡ s)

module _ {A F : Type 0} (calls : Shared F (Bor A × (Bor A × Unit {0})) Bool) where
  -- Each call of f with references to x and y returns same x y.
  abbrev pub ActsAsAtPair : F → (A → A → Bool) → Type 0
  ActsAsAtPair f same = (x y : A) (r : Bool) → FnReturnsAtPair calls f x y r → r ≡ same x y

  -- f may be called with references to x and y.
  abbrev pub TakesPair : F → A → A → Type 0
  TakesPair f x y = (v w : Bor A) → v.now ≡ x → w.now ≡ y → calls.pre f (v, (w, tt))

  -- f may be called with any two items of xs.
  abbrev pub CallableAtPairs : F → List A → Type 0
  CallableAtPairs f xs = All (λ x. All (TakesPair f x) xs) xs

  -- One call of `next` takes a run from the start of the items left, or returns `None` at the end.
  abbrev pub CutsRun : ((A → A → Bool) → List A → A → Bool)
      → Cutting A F → Option (List A) → Cutting A F → Type 0
  CutsRun place s r t = (t.closure ≡ s.closure) × MatchOption r
      ((s.left ≡ []) × (t.left ≡ []))
      (λ run. (s.left ≡ run ++ t.left) × (run ≢ [])
      × ((same : A → A → Bool) → ActsAsAtPair s.closure same
      → IsRun (place same) run × Breaks (place same) run t.left))

  -- The list is a variable, ys, so that `grind` finds the fact at the runs that a goal names.
  -- The source s of runs yields the runs of xs, if its closure f acts as a test of two items.
  abbrev pub GivesRunsOf : ((A → A → Bool) → List A → A → Bool)
      → F → Cutting A F → List A → Type 0
  GivesRunsOf place f s xs =
      (same : A → A → Bool) (ys : List A) → ys ≡ xs → ActsAsAtPair f same
      → Naming (runs_of place same ys) (Listed BecomesCutter (CutsRun place) (λ x. x) s)

-- `grind` takes each equation at a goal that names its left side.
-- The first items of runs, and a number of each, are made of the runs one by one. `any` is some
-- item, as no run is empty.
abbrev pub TakesHeads : {A : Type 0} → ((A → A → Bool) → List A → A → Bool) → Type 0
TakesHeads {A} place = (any : A) × ((same : A → A → Bool) (xs : List A)
    → Naming (heads (runs_of place same xs)) (λ firsts.
    firsts ≡ map (λ run. slice_index_or run 0 any) (runs_of place same xs))
    × ((key : A → ℕ) → Naming (map key (heads (runs_of place same xs))) (λ keys.
    keys ≡ map (λ run. key (slice_index_or run 0 any)) (runs_of place same xs))))
