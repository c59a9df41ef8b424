-- For `all_unique`: whether the items of a source are distinct.
use Rattle.std.specs.Prelude.{◌≡◌, ◌↔◌, ◌&&◌, Bool, true, false, not, List, [], ◌∷◌, ◌++◌, IsTrue}
use Rattle.std.specs.Bool.{MatchBool}
use Rattle.std.specs.List.{IsDistinct}
use Rattle.std.specs.Set.{is_member}

-- The source yields distinct items, and then ends (`true`), or yields one of them again (`false`).
abbrev pub ChecksUnique : {U A : Type 0} → (Bool → U → List A → Type 0) → (A → A → Bool) → U → Bool
    → Type 0
ChecksUnique {A = A} reads eq source result = (xs : List A) × IsDistinct eq xs
    × MatchBool result (reads true source xs)
    ((x : A) × reads false source (xs ++ x ∷ []) × (is_member eq xs x ≡ true))

-- For the automatic proof, which computes it if items are written out: no item equals a later one.
abbrev pub are_unique : {A : Type 0} → (A → A → Bool) → List A → Bool
are_unique eq [] = true
are_unique eq (x ∷ xs) = not (is_member eq xs x) && are_unique eq xs

-- `unique` says whether no two of the items xs are equal.
abbrev pub ChecksDistinct : {A : Type 0} → (A → A → Bool) → List A → Bool → Type 0
ChecksDistinct eq xs unique = (IsTrue unique ↔ IsDistinct eq xs) × (unique ≡ are_unique eq xs)
