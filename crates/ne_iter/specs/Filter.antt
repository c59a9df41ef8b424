-- The items that `filter` and `filter_map` yield.
use Rattle.std.specs.Prelude.{◌≡◌, ℕ, Bool, List, Option, filter, filter_map, map, not, true}
use Rattle.std.specs.Bool.{OnFalse}
use Rattle.std.specs.Iterator.{ActsAsAt}
use Rattle.std.specs.Iterator.Runs.{EachRunFrom}
use Rattle.std.specs.Option.{option_map}
use Rattle.ne_vec.specs.Lists.{EachList, Naming, View, itself}
use Rattle.std.specs.Fn.{Mut}
use Rattle.std.specs.Borrow.{Bor}
use Rattle.ne_iter.specs.Calls.{Calls, CallsEachAt}
use Rattle.ne_iter.specs.Keys.{items_of}
use Rattle.ne_iter.specs.Map.{ActsThrough}

module _ {U A : Type 0} (reads : Bool → U → List A → Type 0) where
  -- xs are the source's items for which f returns true.
  pub record IsFiltered {F : Type 0} (calls : Mut F (Bor A × Unit {0}) Bool) (source : U) (f : F)
      (whole : Bool) (xs : List A) : Type 0 where
    -- Each item with the result of f for it.
    pub tested : List (A × Bool)
    pub f_then : F
    pub read : reads whole source (items_of tested)
    pub called : CallsEachAt calls f tested f_then
    pub is : xs ≡ items_of (filter (λ p. p.1) tested)

  -- ys are the source's items for which f returns true, and ns the others. The source ends.
  pub record IsParted {F : Type 0} (calls : Mut F (Bor A × Unit {0}) Bool) (source : U) (f : F)
      (ys ns : List A) : Type 0 where
    -- Each item with the result of f for it.
    pub tested : List (A × Bool)
    pub f_then : F
    pub read : reads true source (items_of tested)
    pub called : CallsEachAt calls f tested f_then
    pub passed : ys ≡ items_of (filter (λ p. p.1) tested)
    pub others : ns ≡ items_of (filter (λ p. not p.1) tested)

  -- ys are the values that f returns in `Some`, called with the source's items in order.
  pub record IsFilterMapped {B F : Type 0} (calls : Mut F (A × Unit {0}) (Option B)) (source : U)
      (f : F) (whole : Bool) (ys : List B) : Type 0 where
    pub items : List A
    pub results : List (Option B)
    pub f_then : F
    pub read : reads whole source items
    pub called : Calls calls f items results f_then
    pub is : ys ≡ filter_map (λ o. o) results

-- If f acts as a test, ys are the items that pass it, and ns the others, themselves or through
-- `view`.
abbrev pub PartsLists : {U A F : Type 0} → Mut F (Bor A × Unit {0}) Bool → (view : View A)
    → ((view : View A) → U → List view.Target → Type 0) → U → F → List A → List A → Type 0
PartsLists {A = A} calls view lists u f ys ns =
    EachList (lists itself) u (λ xs. (test : A → Bool) → ActsAsAt calls f test
    → (ys ≡ filter test xs) × (ns ≡ filter (λ x. not (test x)) xs))
    × OnFalse view.is_itself (EachList (lists view) u (λ xs. (test : view.Target → Bool)
    → ActsAsAt calls f (λ x. test (view.of x))
    → (map view.of ys ≡ filter test xs) × (map view.of ns ≡ filter (λ x. not (test x)) xs)))

module _ {A B F T : Type 0} (calls : Mut F (A × Unit {0}) (Option B)) (f : F)
    (next : T → Option B → T → Type 0) (it : T) (view : View A) (xs : List view.Target) where
  -- The items of a whole run of `filter_map`, through `out`, are the values that h has in `Some` at
  -- the items of xs.
  abbrev pub FilterMapsTo : (W : Type 0) → Type 0
  FilterMapsTo W = EachRunFrom next it (λ p. (h : view.Target → Option W)
      → Naming (filter_map h xs) (λ ys. (out : B → W) → p.whole ≡ true
      → ActsThrough calls f (option_map out) (λ x. h (view.of x)) → map out p.items ≡ ys))

  -- What `filter_map` says of a closure that returns references: to numbers, lists and texts.
  abbrev pub FilterMapsThrough : Type 0
  FilterMapsThrough = FilterMapsTo ℕ × FilterMapsTo (List ℕ)
