-- A list by its first item and by its last one, before and after another is written there.
use Rattle.std.proofs.Common.{◌≡◌, ℕ, ◌<◌, suc, List, [], ◌∷◌, ◌++◌, length, take, drop}
use Rattle.std.proofs.Common.{slice_index_or, slice_set, refl, sym, ap, ◌∙◌, arith}
use Rattle.std.proofs.Math.Seq.{take-suc, take-suc-set}
use Rattle.std.proofs.Math.ListN.{length-set}
use Rattle.std.proofs.lemmas.List.{take_all}

module _ {X : Type 0} where
  pub by_first : (xs : List X) (x y : X) → 0 < length xs → x ≡ slice_index_or xs 0 x
      → (xs ≡ x ∷ drop 1 xs) × (slice_set xs 0 y ≡ y ∷ drop 1 xs)
  by_first [] x y some is = absurd (omega arith)
  by_first (z ∷ zs) x y some is = (ap (λ w. w ∷ zs) (sym is), refl)

  pub by_last : (xs : List X) (n : ℕ) (x y : X) → length xs ≡ suc n → x ≡ slice_index_or xs n x
      → (xs ≡ take n xs ++ x ∷ []) × (slice_set xs n y ≡ take n xs ++ y ∷ [])
  by_last xs n x y is_long is = (
    sym (take_all (suc n) xs (omega arith)) ∙ take-suc xs n x (omega arith)
        ∙ ap (λ z. take n xs ++ z ∷ []) (sym is),
    sym (take_all (suc n) (slice_set xs n y) (omega (arith, length-set xs n y)))
        ∙ take-suc-set xs n y (omega arith),
  )
