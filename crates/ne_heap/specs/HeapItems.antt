-- Which items a list has, in any order. In each definition the parts on lengths, sums and counts
-- follow from the others; they serve the automatic proof, which finds them by the list that a
-- caller holds at last.
use Rattle.std.specs.Prelude.{◌≡◌, ℕ, ◌+◌, ◌<◌, Bool, Some, List, ◌∷◌, length, slice_get}
use Rattle.std.specs.BinaryHeap.{IsUpperBound, lt_by_cmp}
use Rattle.std.specs.List.{count_by, sum_by}
use Rattle.std.specs.List.Sorted.{IsPermutation}
use Rattle.std.specs.declared.cmp.Ordering.{Ordering}

module _ {X : Type 0} where
  -- ys has the items of xs, each as often.
  abbrev pub SameItems : List X → List X → Type 0
  SameItems xs ys = IsPermutation xs ys × (length ys ≡ length xs)
      × ((f : X → ℕ) → sum_by f ys ≡ sum_by f xs)

  -- ys has x and the items of xs.
  abbrev pub AddsItem : X → List X → List X → Type 0
  AddsItem x xs ys = IsPermutation (x ∷ xs) ys × (length ys ≡ length xs + 1)
      × ((f : X → ℕ) → sum_by f ys ≡ f x + sum_by f xs)

  -- xs has x and the items of ys.
  abbrev pub TakesItem : List X → X → List X → Type 0
  TakesItem xs x ys = IsPermutation xs (x ∷ ys) × (length xs ≡ length ys + 1)
      × ((f : X → ℕ) → (sum_by f ys ≡ sum_by f ys) × (sum_by f ys + f x ≡ sum_by f xs))

  -- ys has the items of xs, with y in place of x.
  abbrev pub ReplacesItem : List X → X → X → List X → Type 0
  ReplacesItem xs x y ys = IsPermutation (y ∷ xs) (x ∷ ys) × (length ys ≡ length xs)
      × ((f : X → ℕ) → (sum_by f ys ≡ sum_by f ys) × (sum_by f ys + f x ≡ f y + sum_by f xs))

  -- x is the item of the heap xs that is at its top, and no item is greater.
  abbrev pub IsGreatestItem : (X → X → Bool) → (X → X → Ordering) → List X → X → Type 0
  IsGreatestItem eq cmp xs x = (slice_get xs 0 ≡ Some x) × IsUpperBound cmp x xs
      × (0 < count_by (λ y. eq y x) xs) × (count_by (λ y. lt_by_cmp cmp x y) xs ≡ 0)
