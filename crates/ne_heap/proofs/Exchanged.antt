-- What a list holds after one item was taken out and another one put in.
use Rattle.std.proofs.Common.{List, [], ◌∷◌}
use Rattle.std.specs.List.Sorted.{IsPermutation}
use Rattle.std.proofs.lemmas.List.Sorted.{IsPermutation-cons, IsPermutation-middle}
use Rattle.std.proofs.lemmas.List.Sorted.{IsPermutation-trans}

pub exchanged : {X : Type 0} → (xs rest ys : List X) (x y : X) → IsPermutation xs (x ∷ rest)
    → IsPermutation (y ∷ rest) ys → IsPermutation (y ∷ xs) (x ∷ ys)
exchanged xs rest ys x y taken put =
    IsPermutation-trans _ _ _ (IsPermutation-cons y xs (x ∷ rest) taken)
    (IsPermutation-trans _ _ _ (IsPermutation-middle (y ∷ []) x rest)
    (IsPermutation-cons x (y ∷ rest) ys put))
