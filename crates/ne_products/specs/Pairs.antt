-- The pairs that `cartesian_product` yields, as lists. On lists, `cartesian_product` is the one of
-- `itertools`: one row of pairs for each item of the first list. A pair comes in `Ok`, with a clone
-- of its first part. If that clone can fail, or if `refused` holds, an `Err` may come in its place.
-- The second parts of a row are what was read for it; if all rows read the list ys, the pairs are
-- those of `cartesian_product`.
pub use Rattle.itertools.specs.List.{cartesian_product}
use Rattle.std.specs.Prelude.{◌≡◌, Bool, true, ◌&&◌, ⊤, List, [], ◌∷◌, ◌++◌, length, map, is_ok}
use Rattle.std.specs.Prelude.{Result, Ok, Err}
use Rattle.std.specs.List.{list_all}
use Rattle.std.specs.Prelude.{◌⊎◌}

-- A clone of some iterator that the source u becomes can fail.
abbrev pub CanRefuse : {U J : Type 0} → (U → J → Type 0) → (J → Type 0) → U → Type 0
CanRefuse {J = J} becomes certain u = (j : J) × becomes u j × (certain j → ⊥)

-- The results zs are a prefix of the pairs ps, and may end with an `Err` in place of the next pair.
abbrev pub ClonedPairs : {A B E : Type 0} → (A → A → Type 0) → (A → Type 0) → Type 0
    → List (A × B) → List (Result (A × B) E) → Type 0
ClonedPairs clones infallible refused ps [] = ⊤
ClonedPairs clones infallible refused [] (Ok q ∷ zs) = ⊥
ClonedPairs clones infallible refused (p ∷ ps) (Ok q ∷ zs) = clones p.0 q.0 × (q.1 ≡ p.1)
    × ClonedPairs clones infallible refused ps zs
ClonedPairs clones infallible refused [] (Err e ∷ zs) = (zs ≡ []) × refused
ClonedPairs clones infallible refused (p ∷ ps) (Err e ∷ zs) = (zs ≡ [])
    × ((infallible p.0 → ⊥) ⊎ refused)

-- The pairs of each item with the items of its row, row by row.
abbrev pub pairs_by_row : {A B : Type 0} → List A → List (List B) → List (A × B)
pairs_by_row [] rows = []
pairs_by_row (x ∷ xs) [] = []
pairs_by_row (x ∷ xs) (row ∷ rows) = map (λ y. (x, y)) row ++ pairs_by_row xs rows

-- Each row is read from an iterator for which `from` holds: to its end, the last only if `whole`.
abbrev pub ReadsRows : {J B : Type 0} → (Bool → J → List B → Type 0) → (J → Type 0) → Bool
    → List (List B) → Type 0
ReadsRows reads from whole [] = ⊤
ReadsRows {J = J} reads from whole (row ∷ []) = (j : J) × from j × reads whole j row
ReadsRows {J = J} reads from whole (row ∷ next ∷ rows) = ((j : J) × from j × reads true j row)
    × ReadsRows reads from whole (next ∷ rows)

-- zs are the first pairs of the source's items with the items of their rows, each row read from an
-- iterator for which `from` holds; and all of them if `whole` and if none is an `Err`.
pub record IsProduct {U J A B E : Type 0} (reads : Bool → U → List A → Type 0)
    (reads_row : Bool → J → List B → Type 0) (from : J → Type 0) (clones : A → A → Type 0)
    (infallible : A → Type 0) (refused : Type 0) (source : U) (whole : Bool)
    (zs : List (Result (A × B) E)) : Type 0 where
  pub items : List A
  pub rows : List (List B)
  pub same_length : length rows ≡ length items
  pub read : reads (whole && list_all is_ok zs) source items
  pub read_rows : ReadsRows reads_row from (whole && list_all is_ok zs) rows
  pub paired : ClonedPairs clones infallible refused (pairs_by_row items rows) zs
  pub all : (whole && list_all is_ok zs) ≡ true → length zs ≡ length (pairs_by_row items rows)
