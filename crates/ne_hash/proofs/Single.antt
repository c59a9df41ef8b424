-- What an empty map or set holds after one pair or item is inserted.
use Rattle.std.proofs.Common.{◌≡◌, List, [], ◌∷◌, length, refl, ap, ◌∙◌, arith, None, Bool, Option}
use Rattle.std.proofs.Common.{true}
use Rattle.std.specs.Prelude.{not}
use Rattle.std.specs.List.{All, list_any}
use Rattle.std.specs.List.Sorted.{IsPermutation}
use Rattle.std.specs.HashMap.{HashMap, PutsEntry, get}
use Rattle.std.specs.HashSet.{HashSet, PutsKey, contains}
use Rattle.std.specs.Map.{lookup}
use Rattle.std.proofs.lemmas.List.Sorted.{length_permutation, All-permutation}
use Rattle.std.proofs.lemmas.List.Elements.{All-head, All-cons, All-nil}

module _ {X : Type 0} (x : X) where
  one_left : (ys : List X) → length ys ≡ 1 → All (λ y. y ≡ x) ys → ys ≡ x ∷ []
  one_left [] l h = absurd (omega (arith, l))
  one_left (y ∷ []) l h = ap (λ z. z ∷ []) (All-head (λ w. w ≡ x) y [] h)
  one_left (y ∷ z ∷ zs) l h = absurd (omega (arith, l))

  only_permutation : (ys : List X) → IsPermutation (x ∷ []) ys → ys ≡ x ∷ []
  only_permutation ys p =
      one_left ys (length_permutation _ _ p) (All-permutation (λ y. y ≡ x) _ _ p
      (All-cons (λ y. y ≡ x) x [] refl (All-nil (λ y. y ≡ x))))

pub one_entry : {K V S : Type 0} (eq : K → K → Bool) (m n : HashMap K V S) (k : K) (v : V)
    (old : Option V) → m.entries ≡ [] → old ≡ get eq m k → PutsEntry eq m n k v old
    → n.entries ≡ (k, v) ∷ []
one_entry eq m n k v old empty was puts =
    let none : old ≡ None = was ∙ ap (λ es. lookup (eq k) es) empty in
    let p : IsPermutation ((k, v) ∷ m.entries) n.entries = rw none at puts in
    only_permutation (k, v) n.entries (rw empty at p)

pub one_item : {T S : Type 0} (eq : T → T → Bool) (s t : HashSet T S) (x : T) (added : Bool)
    → s.keys ≡ [] → added ≡ not (contains eq s x) → PutsKey s t x added → t.keys ≡ x ∷ []
one_item eq s t x added empty was puts =
    let new : added ≡ true = was ∙ ap (λ ks. not (list_any (eq x) ks)) empty in
    let p : IsPermutation (x ∷ s.keys) t.keys = rw new at puts in
    only_permutation x t.keys (rw empty at p)
