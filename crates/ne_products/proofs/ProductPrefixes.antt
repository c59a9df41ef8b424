-- The pairs that a product yields if no clone fails and each clone equals its original.
use Rattle.std.proofs.Common.{arith, ap, sym, subst, append_assoc, inl, inr, ◌∙◌, ◌⊎◌}
use Rattle.std.proofs.lemmas.Grind.{flat_map-append}
use Rattle.std.proofs.lemmas.List.Elements.{Contains-append_left, Contains-append_right}
use Rattle.std.proofs.lemmas.List.Elements.{Contains-push}
use Rattle.std.proofs.lemmas.List.{length-append, length-map, map-append, nil_from_length}
use Rattle.std.specs.Prelude.{◌≡◌, Bool, true, ◌&&◌, List, [], ◌∷◌, ◌++◌, map, length, is_ok, refl}
use Rattle.std.specs.Prelude.{Contains, Result, Ok, Err}
use Rattle.std.specs.List.{AllByRecursion, list_all}
use Rattle.std.specs.Result.{result_map_both}
use Rattle.ne_vec.specs.Lists.{IsPrefix}
use Rattle.ne_iter.specs.Collected.{values_or_first_err}
use Rattle.ne_products.specs.Pairs.{cartesian_product, ClonedPairs}
use Rattle.ne_products.specs.Restarts.{HasExactClones}

pub all_values : {T E : Type 0} (values : List T)
    → values_or_first_err {E = E} (map Ok values) ≡ Ok values
all_values [] = refl
all_values (v ∷ vs) = ap (result_map_both (λ xs. v ∷ xs) (λ e. e)) (all_values vs)

module _ {A : Type 0} (clones : A → A → Type 0) (infallible : A → Type 0) where
  -- Clones of x never fail, and equal x.
  abbrev IsExact : A → Type 0
  IsExact x = infallible x × ((y : A) → clones x y → y ≡ x)

  abbrev AreExact : {B : Type 0} → List (A × B) → Type 0
  AreExact = AllByRecursion (λ p. IsExact p.0)

  row_exact : {B : Type 0} (x : A) (ys : List B) (ps : List (A × B)) → IsExact x → AreExact ps
      → AreExact (map (λ y. (x, y)) ys ++ ps)
  row_exact x [] ps one rest = rest
  row_exact x (y ∷ ys) ps one rest = (one, row_exact x ys ps one rest)

  pairs_exact : {B : Type 0} (xs : List A) (ys : List B) → HasExactClones clones infallible xs
      → AreExact (cartesian_product xs ys)
  pairs_exact [] ys exact = tt
  pairs_exact (x ∷ xs) ys exact = row_exact x ys (cartesian_product xs ys)
      (exact x (Contains-append_left (x ∷ []) xs x (Contains-push [] x)))
      (pairs_exact xs ys (λ z among. exact z (Contains-append_right (x ∷ []) xs z among)))

none_refused : {P Q : Type 0} → P → (Q → ⊥) → (P → ⊥) ⊎ Q → ⊥
none_refused sure never (inl item) = item sure
none_refused sure never (inr side) = never side

module _ {A B E : Type 0} (clones : A → A → Type 0) (infallible : A → Type 0) (refused : Type 0)
    (never : refused → ⊥) where
  -- The results so far are a prefix of the pairs, and each of them is in `Ok`.
  in_ok : (ps : List (A × B)) (zs : List (Result (A × B) E)) → AreExact clones infallible ps
      → ClonedPairs clones infallible refused ps zs
      → (more : List (Result (A × B) E)) × (map Ok ps ≡ zs ++ more)
      × (list_all is_ok zs ≡ true)
  in_ok ps [] exact h = (map Ok ps, refl, refl)
  in_ok [] (Err e ∷ zs) exact h = absurd (never h.1)
  in_ok (p ∷ ps) (Err e ∷ zs) exact h = absurd (none_refused exact.0.0 never h.1)
  in_ok [] (Ok q ∷ zs) exact h = absurd h
  in_ok (p ∷ ps) (Ok q ∷ zs) exact h =
      let rest = in_ok ps zs exact.1 h.2 in
      let first = exact.0.1 q.0 h.0 in
      let second = h.1 in
      let same : p ≡ q = ap (λ a. (a, p.1)) (sym first) ∙ ap (λ b. (q.0, b)) (sym second) in
      let others = rest.1 in
      (rest.0, cc, rest.2)

  pub product_prefix : (whole : Bool) (xs us : List A) (ys : List B)
      (zs : List (Result (A × B) E)) → HasExactClones clones infallible xs
      → IsPrefix (whole && list_all is_ok zs) xs us
      → ClonedPairs clones infallible refused (cartesian_product us ys) zs
      → ((whole && list_all is_ok zs) ≡ true → length zs ≡ length (cartesian_product us ys))
      → IsPrefix whole (map Ok (cartesian_product xs ys)) zs
  product_prefix whole xs us ys zs exact prefix paired all =
      let ps = cartesian_product us ys in
      let exact_pairs = pairs_exact clones infallible us ys (λ z among. exact z
      (subst (λ l. Contains l z) (sym prefix.1) (Contains-append_left us prefix.0 z among))) in
      let rest = in_ok ps zs exact_pairs paired in
      let later = map Ok (cartesian_product prefix.0 ys) in (
        rest.0 ++ later,
        ap (λ l. map Ok (cartesian_product l ys)) prefix.1
            ∙ ap (map Ok) (flat_map-append (λ x. map (λ y. (x, y)) ys) us prefix.0)
            ∙ map-append Ok ps (cartesian_product prefix.0 ys)
            ∙ ap (λ l. l ++ later) rest.1 ∙ append_assoc zs rest.0 later,
        λ w.
            let both : (whole && list_all is_ok zs) ≡ true = rw (w, rest.2) refl in
            let long = ap length rest.1 in
            let none = nil_from_length rest.0
            (omega (
              arith,
              long,
              length-map {B = Result (A × B) E} ps Ok,
              length-append zs rest.0,
              all both,
            )) in
            ap (λ l. rest.0 ++ map Ok (cartesian_product l ys)) (prefix.2 both)
            ∙ ap (λ l. l ++ []) none,
      )
