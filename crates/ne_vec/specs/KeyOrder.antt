-- The order that a sort by a key makes. `grind` unfolds neither `KeysAscend` nor `KeepsTies`.
use Rattle.std.specs.Prelude.{◌≡◌, ℕ, ◌≤◌, ◌<◌, Bool, false, List, length, slice_index_or}
use Rattle.std.specs.List.{filter}
use Rattle.std.specs.Ordering.{is_lt}
use Rattle.std.specs.declared.cmp.Ordering.{Ordering}

module _ {A K : Type 0} (key : A → K) where
  -- The keys ascend: no later key is less than an earlier one.
  unfoldable pub KeysAscend : (K → K → Ordering) → List A → Type 0
  KeysAscend cmp xs = (i j : ℕ) (d : A) → i ≤ j → j < length xs
      → is_lt (cmp (key (slice_index_or xs j d)) (key (slice_index_or xs i d))) ≡ false

  -- The items that have the key k, in order.
  abbrev pub tied : (K → K → Bool) → K → List A → List A
  tied eq k xs = filter (λ x. eq (key x) k) xs

  -- Items of equal keys are in ys in the order that they have in xs.
  unfoldable pub KeepsTies : (K → K → Bool) → List A → List A → Type 0
  KeepsTies eq xs ys = (k : K) → tied eq k ys ≡ tied eq k xs
