-- `sorted_by_key`: the order of the items that it returns.
use Rattle.std.specs.Prelude.{◌≡◌, ℕ, Bool, List, map}
use Rattle.std.specs.Borrow.{Bor}
use Rattle.std.specs.Fn.{Mut}
use Rattle.std.specs.Iterator.{ActsAsAt}
use Rattle.std.specs.List.Sorted.{IsPermutation}
use Rattle.std.specs.declared.cmp.Ordering.{Ordering}
use Rattle.ne_vec.specs.KeyOrder.{KeysAscend, KeepsTies}
use Rattle.ne_vec.specs.Lists.{Naming, View}

module _ {A K F : Type 0} (calls : Mut F (Bor A × Unit {0}) K) (f : F) where
  -- The keys that f returns for ys ascend, if f acts as a function h of the items through `view`.
  abbrev pub AscendsByKey : (K → K → Ordering) → View A → List A → Type 0
  AscendsByKey cmp view ys = (h : view.Target → K) → ActsAsAt calls f (λ x. h (view.of x))
      → KeysAscend h cmp (map view.of ys)

  -- ys, through `view`, are the items of xs, and items whose keys tie keep their order.
  abbrev pub PermutesByKey : (K → K → Bool) → (view : View A) → List view.Target → List A → Type 0
  PermutesByKey eq view xs ys = IsPermutation xs (map view.of ys)
      × ((h : view.Target → K) → ActsAsAt calls f (λ x. h (view.of x))
      → KeepsTies h eq xs (map view.of ys))

module _ {A : Type 0} (view : View A) (ys : List A) where
  -- For the automatic proof: what h makes of the items of ys through `view`, it makes of ys.
  abbrev pub MapsTarget : (W : Type 0) → Type 0
  MapsTarget W = (h : view.Target → W) → Naming (map h (map view.of ys)) (λ zs.
      zs ≡ map (λ y. h (view.of y)) ys)

  -- The same to numbers, and to lists and texts.
  abbrev pub MapsTargets : Type 0
  MapsTargets = MapsTarget ℕ × MapsTarget (List ℕ)
