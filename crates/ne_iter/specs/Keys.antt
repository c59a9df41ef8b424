-- Items with their keys, and their division by their keys.
use Rattle.std.specs.Prelude.{◌≡◌, Bool, List, map}
use Rattle.ne_vec.specs.Divisions.{IsDivision, by_first}

-- The items of a list of items with keys.
abbrev pub items_of : {A K : Type 0} → List (A × K) → List A
items_of ps = map (λ p. p.0) ps

-- Whether two items have the same key; the key of the first is on the left.
abbrev pub same_key : {A K : Type 0} → (K → K → Bool) → A × K → A × K → Bool
same_key eq p q = eq p.1 q.1

-- rs are the runs of the items of ps: each key is compared with the key of its run's first item.
abbrev pub DividesByKey : {A K : Type 0} → (K → K → Bool) → List (A × K) → List (List A) → Type 0
DividesByKey {A} {K} eq ps rs = (runs : List (List (A × K)))
    × IsDivision (by_first (same_key eq)) ps runs × (rs ≡ map items_of runs)

-- rs are the runs of xs by the keys that h gives for the items, each compared with that of its
-- run's first item. `grind` does not unfold `IsDividedBy`.
unfoldable pub IsDividedBy : {A K : Type 0} → (A → K) → (K → K → Bool) → List A → List (List A)
    → Type 0
IsDividedBy h eq xs rs = IsDivision (by_first (λ x y. eq (h x) (h y))) xs rs
