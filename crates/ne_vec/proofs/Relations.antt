-- Divisions under relations that agree.
use Rattle.std.proofs.Common.{◌≡◌, Bool, true, false, cond, List, [], ◌∷◌, ◌++◌, refl, sym, ap}
use Rattle.std.proofs.Common.{subst, ◌∙◌, ◌⊎◌, inl, inr}
use Rattle.std.specs.Cmp.{IsPartialEquivalence, per_alike}
use Rattle.ne_vec.specs.Divisions.{IsDivision, by_first, by_previous, runs_from, runs_of}
use Rattle.ne_vec.specs.DivisionLaws.{divide, divides, divide_only}

module _ {A : Type 0} (on off : List A → A → Bool) (alike : (r : List A) (x : A) → on r x ≡ off r x)
  where
    cut_alike : (r xs : List A) → runs_from on r xs ≡ runs_from off r xs
    cut_alike r [] = refl
    cut_alike r (x ∷ xs) =
        subst (λ v. cond v (runs_from on (r ++ x ∷ []) xs) (r ∷ runs_from on (x ∷ []) xs)
        ≡ cond (off r x) (runs_from off (r ++ x ∷ []) xs) (r ∷ runs_from off (x ∷ []) xs))
        (sym (alike r x)) (
        elim (off r x) as (λ v. cond v (runs_from on (r ++ x ∷ []) xs)
        (r ∷ runs_from on (x ∷ []) xs)
        ≡ cond v (runs_from off (r ++ x ∷ []) xs) (r ∷ runs_from off (x ∷ []) xs)) [
          | true ↦ cut_alike (r ++ x ∷ []) xs
          | false ↦ ap (λ l. r ∷ l) (cut_alike (x ∷ []) xs)
        ]
        )

    divide_alike : (xs : List A) → divide on xs ≡ divide off xs
    divide_alike [] = refl
    divide_alike (x ∷ xs) = cut_alike (x ∷ []) xs

    pub division_alike : (xs : List A) (rs : List (List A)) → IsDivision on xs rs
        → IsDivision off xs rs
    division_alike xs rs d = subst (IsDivision off xs)
        (sym (divide_only on xs rs d ∙ divide_alike xs)) (divides off xs)

module _ {A : Type 0} (same : A → A → Bool) where
  module _ (symm : (x y : A) → same x y ≡ same y x) where
    first_converse : (r : List A) (x : A) → by_first same r x ≡ by_first (λ x y. same y x) r x
    first_converse [] x = refl
    first_converse (f ∷ r) x = symm f x

    pub division_converse : (xs : List A) (rs : List (List A)) → IsDivision (by_first same) xs rs
        → IsDivision (by_first (λ x y. same y x)) xs rs
    division_converse xs rs d = division_alike (by_first same) (by_first (λ x y. same y x))
        first_converse xs rs d

    pub runs_converse : (xs : List A)
        → runs_of by_first (λ x y. same y x) xs ≡ runs_of by_first same xs
    unfolding runs_of
    runs_converse [] = refl
    runs_converse (x ∷ xs) = sym (cut_alike (by_first same) (by_first (λ x y. same y x))
        first_converse (x ∷ []) xs)

  -- ---- the first item and the previous one

  last_of : A → List A → A
  last_of f [] = f
  last_of f (x ∷ xs) = last_of x xs

  abbrev Tied : A → List A → Type 0
  Tied f s = (same f (last_of f s) ≡ true) ⊎ (s ≡ [])

  last_of_more : (f : A) (s : List A) (x : A) → last_of f (s ++ x ∷ []) ≡ x
  unfolding last_of
  last_of_more f [] x = refl
  last_of_more f (y ∷ s) x = last_of_more y s x

  previous_is_last : (f : A) (s : List A) (x : A)
      → by_previous same (f ∷ s) x ≡ same (last_of f s) x
  unfolding last_of
  previous_is_last f [] x = refl
  previous_is_last f (y ∷ s) x = previous_is_last y s x

  module _ (laws : IsPartialEquivalence same) where
    tied_alike : (f : A) (s : List A) (x : A) → Tied f s → same f x ≡ by_previous same (f ∷ s) x
    tied_alike f s x (inl e) = per_alike laws f (last_of f s) x e ∙ sym (previous_is_last f s x)
    tied_alike f s x (inr e) = subst (λ l. same f x ≡ by_previous same (f ∷ l) x) (sym e) refl

    cut_places : (xs : List A) (f : A) (s : List A) → Tied f s
        → runs_from (by_first same) (f ∷ s) xs ≡ runs_from (by_previous same) (f ∷ s) xs
    cut_places [] f s t = refl
    cut_places (x ∷ xs) f s t =
        subst (λ v. cond (same f x) (runs_from (by_first same) (f ∷ (s ++ x ∷ [])) xs)
        ((f ∷ s) ∷ runs_from (by_first same) (x ∷ []) xs)
        ≡ cond v (runs_from (by_previous same) (f ∷ (s ++ x ∷ [])) xs)
        ((f ∷ s) ∷ runs_from (by_previous same) (x ∷ []) xs)) (tied_alike f s x t) (
        elim (same f x) as (λ v. same f x ≡ v
        → cond v (runs_from (by_first same) (f ∷ (s ++ x ∷ [])) xs)
        ((f ∷ s) ∷ runs_from (by_first same) (x ∷ []) xs)
        ≡ cond v (runs_from (by_previous same) (f ∷ (s ++ x ∷ [])) xs)
        ((f ∷ s) ∷ runs_from (by_previous same) (x ∷ []) xs)) [
          | true ↦ λ e. cut_places xs f (s ++ x ∷ [])
              (inl (subst (λ v. same f v ≡ true) (sym (last_of_more f s x)) e))
          | false ↦ λ e. ap (λ l. (f ∷ s) ∷ l) (cut_places xs x [] (inr refl))
        ] refl
        )

    divide_places : (xs : List A) → divide (by_first same) xs ≡ divide (by_previous same) xs
    divide_places [] = refl
    divide_places (x ∷ xs) = cut_places xs x [] (inr refl)

    pub first_to_previous : (xs : List A) (rs : List (List A)) → IsDivision (by_first same) xs rs
        → IsDivision (by_previous same) xs rs
    first_to_previous xs rs d = subst (IsDivision (by_previous same) xs)
        (sym (divide_only (by_first same) xs rs d ∙ divide_places xs))
        (divides (by_previous same) xs)

    pub previous_to_first : (xs : List A) (rs : List (List A)) → IsDivision (by_previous same) xs rs
        → IsDivision (by_first same) xs rs
    previous_to_first xs rs d = subst (IsDivision (by_first same) xs)
        (sym (divide_only (by_previous same) xs rs d ∙ sym (divide_places xs)))
        (divides (by_first same) xs)
