-- The indices of the pairs of a product.
use Rattle.std.proofs.Common.{arith, ap, subst, sym, ◌∙◌}
use Rattle.std.proofs.Math.ListN.{get_or}
use Rattle.std.proofs.Math.Nat.{mul-le-mul_right}
use Rattle.std.proofs.lemmas.List.{get_or-map, length-append, length-map, length-take-le}
use Rattle.std.proofs.lemmas.List.Concat.{get_or-flat_map}
use Rattle.std.proofs.lemmas.Option.{same_Some, slice_get-get_or, slice_get_within}
use Rattle.std.specs.Prelude.{◌≡◌, ℕ, ◌+◌, ◌*◌, ◌<◌, List, [], ◌∷◌, Some, length, map, slice_get}
use Rattle.std.specs.Prelude.{take}
use Rattle.ne_products.specs.Pairs.{cartesian_product}

inside : (n m i j : ℕ) → i < n → j < m → i * m + j < n * m
inside n m i j row column =
    let rowed = mul-le-mul_right m row in omega (arith, rowed, column)

module _ {A B : Type 0} (ys : List B) where
  pub pair_count : (xs : List A) → length (cartesian_product xs ys) ≡ length xs * length ys
  pair_count [] = omega arith
  pair_count (x ∷ xs) =
      let row : List (A × B) = map (λ y. (x, y)) ys in
      let long : length row ≡ length ys = length-map ys (λ y. (x, y)) in
      omega (arith, length-append row (cartesian_product xs ys), long, pair_count xs)

  pub pair_place : (xs : List A) (i j : ℕ) (x : A) (y : B) → slice_get xs i ≡ Some x
      → slice_get ys j ≡ Some y
      → slice_get (cartesian_product xs ys) (i * length ys + j) ≡ Some (x, y)
  pair_place xs i j x y at_i at_j =
      let row : A → List (A × B) = λ x. map (λ y. (x, y)) ys in
      let within = slice_get_within xs i x at_i in
      let beside = slice_get_within ys j y at_j in
      let here : get_or xs i x ≡ x =
      same_Some _ _ (sym (slice_get-get_or xs i x within) ∙ at_i) in
      let there : get_or ys j y ≡ y =
      same_Some _ _ (sym (slice_get-get_or ys j y beside) ∙ at_j) in
      let wide : j < length (row (get_or xs i x)) =
      subst (λ n. j < n) (sym (length-map ys (λ y. (get_or xs i x, y)))) beside in
      let before : length (cartesian_product (take i xs) ys) ≡ i * length ys =
      pair_count (take i xs)
      ∙ ap (λ n. n * length ys) (length-take-le i xs (omega (arith, within))) in
      let found = get_or-flat_map row xs i j x (x, y) within wide
      ∙ get_or-map (λ y. (get_or xs i x, y)) ys j y (x, y) beside
      ∙ ap (λ a. (a, get_or ys j y)) here ∙ ap (λ b. (x, b)) there in
      let long = subst (λ n. i * length ys + j < n) (sym (pair_count xs))
      (inside (length xs) (length ys) i j within beside) in
      slice_get-get_or (cartesian_product xs ys) (i * length ys + j) (x, y) long
      ∙ ap Some (ap (λ k. get_or (cartesian_product xs ys) (k + j) (x, y)) (sym before) ∙ found)
