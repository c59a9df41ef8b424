-- The texts that `join` of itertools writes, as std's `join_by` of the items and of their views.
use Rattle.std.proofs.Common.{ap, refl, sym}
use Rattle.std.proofs.lemmas.List.Folds.{flat_map-map}
use Rattle.std.specs.Prelude.{◌≡◌, ℕ, List, [], ◌∷◌, ◌++◌, map}
use Rattle.std.specs.List.{join_by}
use Rattle.itertools.specs.Consumer.{joined}

-- Itertools' word and std's mean the same.
pub joined_by : {A : Type 0} (show : A → List ℕ) (separator : List ℕ) (xs : List A)
    → joined show separator xs ≡ join_by show separator xs
joined_by show separator [] = refl
joined_by show separator (x ∷ xs) = refl

-- A function of the items' views is one of the items.
pub join_by-map : {A B : Type 0} (f : A → B) (show : B → List ℕ) (separator : List ℕ) (xs : List A)
    → join_by (λ x. show (f x)) separator xs ≡ join_by show separator (map f xs)
join_by-map f show separator [] = refl
join_by-map f show separator (x ∷ xs) = ap (λ l. show (f x) ++ l)
    (sym (flat_map-map (λ y. separator ++ show y) f xs))
