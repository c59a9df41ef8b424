-- `runs_by`: how its closure divides items, and the runs that it yields.
use Rattle.std.specs.Prelude.{◌≡◌, ◌≢◌, Bool, true, List, [], ◌++◌, Option, None, MatchOption, ◌⊎◌}
use Rattle.std.specs.Borrow.{Bor}
use Rattle.std.specs.Fn.{Shared}
use Rattle.std.specs.Iterator.{Yields}
use Rattle.std.specs.List.{AllByRecursion, Contains}
use Rattle.ne_vec.specs.Divisions.{IsDivision, by_first, concat, runs_of}
use Rattle.ne_vec.specs.Lists.{View}
use Rattle.ne_vec.specs.SliceRuns.{ActsAsAtPair}
use Rattle.ne_iter.specs.GroupBy.{and_held}
use Rattle.ne_iter.specs.GroupingRuns.{RunTest}

-- `grind` does not unfold `AreRuns`.
-- rs are the runs of xs by a test of two items, each item compared with the first one of its run.
unfoldable pub AreRuns : {A : Type 0} → (A → A → Bool) → List A → List (List A) → Type 0
AreRuns test xs rs = rs ≡ runs_of by_first test xs

module _ {A F : Type 0} (calls : Shared F (Bor A × (Bor A × Unit {0})) Bool) where
  -- The closure gives no keys, and says of two items whether they make a run.
  abbrev pub by_test : RunTest F A (Unit {0})
  by_test = record {
    keys = λ f x k g. g ≡ f;
    tests = λ f test. (same : A → A → Bool) × ActsAsAtPair calls f same
        × (test ≡ (λ p q. same p.0 q.0));
  }

  -- f may be called with any two items of `back` and of those that come from s.
  abbrev pub CallableAfter : {S : Type 0} → (S → Option A → S → Type 0) → List A → S → F → Type 0
  CallableAfter {S} steps back s f = (xs : List A) (t : S) (x y : Bor A) → Yields steps s xs t
      → Contains (back ++ xs) x.now → Contains (back ++ xs) y.now → calls.pre f (x, (y, tt))

  -- If f acts as a test of two items, the runs are those of xs by that test.
  abbrev pub Cuts : F → List A → List (List A) → Type 0
  Cuts f xs rs = (test : A → A → Bool) → ActsAsAtPair calls f test → rs ≡ runs_of by_first test xs

  -- If f acts as a test of two items through `view`, the runs are those of xs by that test.
  abbrev pub CutsThrough : (view : View A) → F → List view.Target → List (List view.Target)
      → Type 0
  CutsThrough view f xs rs = (test : view.Target → view.Target → Bool)
      → ActsAsAtPair calls f (λ x y. test (view.of x) (view.of y)) → AreRuns test xs rs

  -- The lists rs, none of them empty, are xs, one after another. They are the runs of xs, each item
  -- compared with the first one of its run, if f acts as a test of two items.
  pub record CutsInto (f : F) (xs : List A) (rs : List (List A)) : Type 0 where
    pub whole : concat rs ≡ xs
    pub some : AllByRecursion (λ r. r ≢ []) rs
    pub divides : (test : A → A → Bool) → ActsAsAtPair calls f test
        → IsDivision (by_first test) xs rs

module _ {U A F : Type 0} (reads : Bool → U → List A → Type 0)
    (calls : Shared F (Bor A × (Bor A × Unit {0})) Bool) where
  -- The items taken from the source are cut into the runs rs and a held item. If `whole` is true,
  -- the source has ended.
  pub record HasCut (source : U) (f : F) (whole : Bool) (rs : List (List A)) : Type 0 where
    pub drawn : List A
    pub held : Option A
    pub ended : Bool
    pub read : reads ended source drawn
    pub cut : CutsInto calls f drawn (and_held rs held)
    -- An item is held, after a run, unless the source has ended or nothing was taken.
    pub holds : MatchOption held ((ended ≡ true) ⊎ (drawn ≡ [])) (λ _. rs ≢ [])
    pub over : whole ≡ true → (ended ≡ true) × (held ≡ None)
