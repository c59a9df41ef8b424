-- The rows of a product, if each of them is read from an iterator that yields the list ys.
use Rattle.std.proofs.Common.{arith, ap, sym, append_assoc, append-nil, inr, refl, ◌∙◌}
use Rattle.std.proofs.lemmas.List.{map-append}
use Rattle.std.specs.Prelude.{◌≡◌, Bool, true, List, [], ◌∷◌, ◌++◌, map, length, Result, Ok, Err}
use Rattle.ne_vec.specs.Lists.{IsPrefix}
use Rattle.ne_products.specs.Pairs.{cartesian_product, pairs_by_row, ClonedPairs, ReadsRows}

-- What holds of pairs holds of more pairs.
pub cloned_longer : {A B E : Type 0} (clones : A → A → Type 0) (infallible : A → Type 0)
    (refused : Type 0) (more ps : List (A × B)) (zs : List (Result (A × B) E))
    → ClonedPairs clones infallible refused ps zs
    → ClonedPairs clones infallible refused (ps ++ more) zs
cloned_longer clones infallible refused more ps [] h = tt
cloned_longer clones infallible refused more [] (Ok q ∷ zs) h = absurd h
cloned_longer clones infallible refused more (p ∷ ps) (Ok q ∷ zs) h =
    (h.0, h.1, cloned_longer clones infallible refused more ps zs h.2)
cloned_longer clones infallible refused [] [] (Err e ∷ zs) h = h
cloned_longer clones infallible refused (q ∷ more) [] (Err e ∷ zs) h = (h.0, inr h.1)
cloned_longer clones infallible refused more (p ∷ ps) (Err e ∷ zs) h = h

module _ {J B : Type 0} (reads : Bool → J → List B → Type 0) (from : J → Type 0) (ys : List B)
    (each : (j : J) → from j → (whole : Bool) (zs : List B) → reads whole j zs
    → IsPrefix whole ys zs) where
  -- The pairs of the product begin with those by row, and are these if the last row is whole.
  pub equal_rows : {A : Type 0} (whole : Bool) (xs : List A) (rows : List (List B))
      → length rows ≡ length xs → ReadsRows reads from whole rows
      → (more : List (A × B)) × (cartesian_product xs ys ≡ pairs_by_row xs rows ++ more)
      × (whole ≡ true → more ≡ [])
  equal_rows whole [] [] same read = ([], refl, λ w. refl)
  equal_rows whole (x ∷ xs) [] same read = let none : ⊥ = omega (arith, same) in absurd none
  equal_rows whole [] (row ∷ rows) same read = let none : ⊥ = omega (arith, same) in absurd none
  equal_rows whole (x ∷ z ∷ xs) (row ∷ []) same read =
      let none : ⊥ = omega (arith, same) in absurd none
  equal_rows {A} whole (x ∷ []) (row ∷ []) same read =
      let row_of : List B → List (A × B) = map (λ y. (x, y)) in
      let front = each read.0 read.1 whole row read.2 in
      let rest : List (A × B) = row_of front.0 in (
        rest,
        ap (λ l. row_of l ++ []) front.1
            ∙ ap (λ l. l ++ []) (map-append (λ y. (x, y)) row front.0)
            ∙ append-nil (row_of row ++ rest) ∙ ap (λ l. l ++ rest) (sym (append-nil (row_of row))),
        λ w. ap row_of (front.2 w),
      )
  equal_rows {A} whole (x ∷ xs) (row ∷ next ∷ rows) same read =
      let row_of : List B → List (A × B) = map (λ y. (x, y)) in
      let front = each read.0.0 read.0.1 true row read.0.2 in
      let rest = equal_rows whole xs (next ∷ rows) (omega (arith, same)) read.1 in
      let all : ys ≡ row =
      front.1 ∙ ap (λ l. row ++ l) (front.2 refl) ∙ append-nil row in (
        rest.0,
        ap (λ l. row_of l ++ cartesian_product xs ys) all ∙ ap (λ l. row_of row ++ l) rest.1
            ∙ sym (append_assoc (row_of row) (pairs_by_row xs (next ∷ rows)) rest.0),
        rest.2,
      )
