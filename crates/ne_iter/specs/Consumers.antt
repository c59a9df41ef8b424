-- The results of the methods that pick an item of all that a source yields.
use Rattle.std.specs.Prelude.{◌≡◌, ℕ, Bool, true, false, cond, List, length, map, Option, Some}
use Rattle.std.specs.Prelude.{slice_get, take}
use Rattle.std.specs.Borrow.{Bor}
use Rattle.std.specs.Cmp.{IsStrictWeakOrder}
use Rattle.std.specs.Fn.{CalledAt, Mut, Shared, FnReturnsAtPair}
use Rattle.std.specs.Iterator.{ActsAsAt, Yields}
use Rattle.std.specs.Iterator.Runs.{AllItems, AnyItem, CallKeepsClosure, Run}
use Rattle.std.specs.List.{All, IsFirstBest, Contains}
use Rattle.std.specs.Ordering.{is_gt, is_lt}
use Rattle.std.specs.declared.cmp.Ordering.{Ordering}
use Rattle.ne_vec.specs.Lists.{Naming, View}
use Rattle.ne_iter.specs.Calls.{CallsEachAt}
use Rattle.ne_iter.specs.Keys.{items_of}

-- x is less than y, by cmp.
abbrev pub less_by : {A : Type 0} → (A → A → Ordering) → A → A → Bool
less_by cmp x y = is_lt (cmp x y)

module _ {A : Type 0} (less : A → A → Bool) where
  -- m is the first greatest item of xs: it is less than no item, and each before it is less than m.
  abbrev pub IsFirstGreatest : List A → A → Type 0
  IsFirstGreatest xs m = (place : ℕ) × IsFirstBest (λ x y. less y x) xs (length xs) place
      × (slice_get xs place ≡ Some m)

  -- m is the first least item of xs: no item is less than m, which is less than each before it.
  abbrev pub IsFirstLeast : List A → A → Type 0
  IsFirstLeast xs m = (place : ℕ) × IsFirstBest less xs (length xs) place
      × (slice_get xs place ≡ Some m)

module _ {A : Type 0} where
  -- f may be called with any two items that the iterator may yield.
  abbrev pub CallableOnTwo : {S F R : Type 0} → (S → Option A → S → Type 0)
      → Shared F (Bor A × (Bor A × Unit {0})) R → S → F → Type 0
  CallableOnTwo {S} steps calls it f = (xs : List A) (t : S) (x y : Bor A) → Yields steps it xs t
      → Contains xs x.now → Contains xs y.now → calls.pre f (x, (y, tt))

  -- Of the item kept so far and the next one, x, `next` is kept: it is x if f, called with both
  -- through `view`, returns true, and otherwise `kept`.
  abbrev pub KeepsBetter : {V F : Type 0} → (A → V) → Shared F (Bor V × (Bor V × Unit {0})) Bool
      → F → A → A → A → Type 0
  KeepsBetter view calls f kept x next = (better : Bool)
      × FnReturnsAtPair calls f (view kept) (view x) better × (next ≡ cond better x kept)

module _ {A F : Type 0} (calls : Shared F (Bor A × (Bor A × Unit {0})) Ordering) (f : F)
    (view : View A) (xs : List view.Target) where
  -- The result of f for two items of xs, through `view`, is `meant` if and only if `test` is true
  -- of the two. `meant` is `is_lt` for `Less` or `is_gt` for `Greater`.
  abbrev pub ReturnsOnlyWhere : (Ordering → Bool) → (view.Target → view.Target → Bool) → Type 0
  ReturnsOnlyWhere meant test = (x y : A) (r : Ordering) → Contains xs (view.of x)
      → Contains xs (view.of y) → FnReturnsAtPair calls f x y r
      → meant r ≡ test (view.of x) (view.of y)

  -- `max_by`: m, through `view`, is an item of xs, and the first greatest one if f returns `Less`
  -- exactly as a total preorder does.
  abbrev pub PicksGreatest : A → Type 0
  PicksGreatest m = Contains xs (view.of m) × ((less : view.Target → view.Target → Bool)
      → IsStrictWeakOrder less → ReturnsOnlyWhere is_lt less
      → IsFirstGreatest less xs (view.of m))

  -- `min_by`: m, through `view`, is an item of xs, and the first least one if f returns `Greater`
  -- exactly as a total preorder does.
  abbrev pub PicksLeast : A → Type 0
  PicksLeast m = Contains xs (view.of m) × ((less : view.Target → view.Target → Bool)
      → IsStrictWeakOrder less → ReturnsOnlyWhere is_gt (λ x y. less y x)
      → IsFirstLeast less xs (view.of m))

-- The result, with its key, is the best of all items that the source yielded, as `best` says. f was
-- called with the items in order, and each has the key that f returned for it.
pub record PicksByKey {U A K F : Type 0} (reads : Bool → U → List A → Type 0)
    (calls : Mut F (Bor A × Unit {0}) K) (source : U) (f : F) (result : A)
    (best : List (A × K) → A × K → Type 0) : Type 0 where
  pub keyed : List (A × K)
  pub key : K
  pub f_then : F
  pub read : reads true source (items_of keyed)
  pub called : CallsEachAt calls f keyed f_then
  pub is_best : best keyed (result, key)

module _ {U A K F : Type 0} (reads : Bool → U → List A → Type 0)
    (calls : Mut F (Bor A × Unit {0}) K) (cmp : K → K → Ordering) (source : U) (f : F) (result : A)
  where
    -- `max_by_key`: the first of the items with the greatest key.
    abbrev pub PicksGreatestKey : Type 0
    PicksGreatestKey = PicksByKey reads calls source f result
        (IsFirstGreatest (λ p q. less_by cmp p.1 q.1))

    -- `min_by_key`: the first of the items with the least key.
    abbrev pub PicksLeastKey : Type 0
    PicksLeastKey = PicksByKey reads calls source f result
        (IsFirstLeast (λ p q. less_by cmp p.1 q.1))

-- m stands at some place of xs, and P holds for the list of the items before it.
abbrev pub HoldsBefore : {A : Type 0} → List A → A → (List A → Type 0) → Type 0
HoldsBefore xs m P = (place : ℕ) × (slice_get xs place ≡ Some m) × P (take place xs)

-- For the automatic proof: m is in xs, no item beats m, and m beats each item before it.
abbrev pub IsBestOfList : {A : Type 0} → (A → A → Bool) → List A → A → Type 0
IsBestOfList beats xs m = Contains xs m × All (λ x. beats x m ≡ false) xs
    × HoldsBefore xs m (All (λ x. beats m x ≡ true))

module _ {A K F : Type 0} (calls : Mut F (Bor A × Unit {0}) K) (f : F) (view : View A) (m : A) where
  -- R relates the key of m to the key of each item of xs, if f acts as a function of items through
  -- `view`, whose values are the keys.
  abbrev pub RelatesKeys : (K → K → Type 0) → List view.Target → Type 0
  RelatesKeys R xs = (h : view.Target → K) → ActsAsAt calls f (λ x. h (view.of x))
      → Naming (map h xs) (All (R (h (view.of m))))

  -- m, through `view`, is the first item of xs with the best key: no key beats its key, which beats
  -- each key before it.
  abbrev pub HasBestKey : (K → K → Bool) → List view.Target → Type 0
  HasBestKey beats xs = Contains xs (view.of m) × RelatesKeys (λ best k. beats k best ≡ false) xs
      × HoldsBefore xs (view.of m) (RelatesKeys (λ best k. beats best k ≡ true))

-- If no call changes f, no item of the run has a key that beats the key of m.
abbrev pub NoKeyBeats : {S A K F : Type 0} {steps : S → Option A → S → Type 0} → Run steps
    → Mut F (Bor A × Unit {0}) K → F → (K → K → Bool) → A → Type 0
NoKeyBeats {K = K} p calls f beats m = CallKeepsClosure calls f → (k : K) × CalledAt calls f m k f
    × AllItems p (λ x. (j : K) × CalledAt calls f x j f × (beats j k ≡ false))

-- For the automatic proof: the run p yields m, no item beats m, and each list that equals the items
-- of p contains m.
abbrev pub IsBestOfRun : {S A : Type 0} {steps : S → Option A → S → Type 0} → Run steps
    → (A → A → Bool) → A → Type 0
IsBestOfRun {A = A} p beats m = AnyItem p (λ x. x ≡ m) × AllItems p (λ x. beats x m ≡ false)
    × ((xs : List A) → p.items ≡ xs → Contains xs m)
