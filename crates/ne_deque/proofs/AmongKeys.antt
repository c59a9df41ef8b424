-- From a search among items, by their keys, to one among the keys.
use Rattle.std.proofs.Common.{◌≡◌, ℕ, zero, suc, ◌<◌, List, [], ◌∷◌, length, map, slice_index_or}
use Rattle.std.proofs.Common.{arith}
use Rattle.std.proofs.Math.ListN.{get_or-map, length-map}
use Rattle.std.specs.Prelude.{Result, Ok, Err}
use Rattle.std.specs.List.Sorted.{IsBinarySearchResult, IsSearchInRange}
use Rattle.std.specs.declared.cmp.Ordering.{Ordering}
use Rattle.std.specs.declared.cmp.Ordering.TheVariants.{Less, Equal, Greater}

module _ {A K : Type 0} (key : A → K) where
  at_key : (P : K → Type 0) (xs : List A) (i : ℕ) (d : K) → i < length xs
      → ((e : A) → P (key (slice_index_or xs i e))) → P (slice_index_or (map key xs) i d)
  at_key P [] i d inside is = absurd (omega arith)
  at_key P (x ∷ xs) zero d inside is = is x
  at_key P (x ∷ xs) (suc i) d inside is = at_key P xs i d (omega arith) is

  pub among_keys : (order : K → Ordering) (xs : List A) (r : Result ℕ ℕ)
      → IsSearchInRange r (length xs) → IsBinarySearchResult (λ y. order (key y)) xs r
      → IsBinarySearchResult order (map key xs) r
  among_keys order xs (Ok i) inside found =
      λ d. at_key (λ k. order k ≡ Equal) xs i d inside found
  among_keys order xs (Err i) inside found =
      λ rises.
      let long = length-map xs key in
      let parted = found (λ k j d a b.
      rw (← get_or-map key xs k d, ← get_or-map key xs j d)
      (rises k j (key d) a (omega (arith, long)))) in (
        λ k d a b. at_key (λ k. order k ≡ Less) xs k d (omega arith) (λ e. parted.0 k e a b),
        λ k d a b. at_key (λ k. order k ≡ Greater) xs k d (omega (arith, long))
            (λ e. parted.1 k e a (omega (arith, long))),
      )
