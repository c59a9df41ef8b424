-- A list of one item has one order.
use Rattle.std.proofs.Common.{◌≡◌, List, [], ◌∷◌, refl, ℕ, zero, suc, ◌<◌, length, arith}
use Rattle.std.specs.List.{swap}
use Rattle.std.specs.List.Sorted.{IsPermutation}
use Rattle.std.proofs.lemmas.List.Sorted.{IsPermutation-keeps}

module _ {X : Type 0} (x : X) where
  swapped : (l : List X) (i j : ℕ) → i < length l → j < length l → l ≡ x ∷ [] → swap l i j ≡ x ∷ []
  swapped [] i j p q e = grind (arith, e)
  swapped (y ∷ []) zero zero p q e = e
  swapped (y ∷ []) zero (suc j) p q e = grind (arith, q)
  swapped (y ∷ []) (suc i) j p q e = grind (arith, p)
  swapped (y ∷ z ∷ zs) i j p q e = grind (arith, e)

  pub only_order : (ys : List X) → IsPermutation (x ∷ []) ys → ys ≡ x ∷ []
  only_order ys p = IsPermutation-keeps (x ∷ []) (λ l. l ≡ x ∷ []) refl
      (λ l i j a b e. swapped l i j a b e) ys p
