-- The items that `retain_mut` and `dedup_by` keep.
use Rattle.std.proofs.Common.{◌≡◌, ◌<◌, Bool, true, false, cond, List, [], ◌∷◌, ◌++◌, length, map}
use Rattle.std.proofs.Common.{refl, ap, subst, ◌∙◌, arith, slice_get, Some}
use Rattle.std.specs.List.{filter, dedup, dedup_from}
use Rattle.std.specs.List.Retain.{RetainsInTurn, DedupsFrom, IsDeduped}
use Rattle.ne_vec.specs.Divisions.{by_first, heads, runs_from, runs_of}
use Rattle.ne_vec.specs.Kept.{KeepsFirsts}

-- ---- `retain_mut`, by a test that is a function of the item

module _ {S A : Type 0} (R : S → A → Bool → S → A → Type 0) (keeps : A → Bool) (writes : A → A)
    (s : S) (pure : (x : A) (b : Bool) (t : S) (y : A) → R s x b t y → (t ≡ s) × (b ≡ keeps x)
    × (y ≡ writes x)) where
  pub retains_filtered : (xs ys : List A) → RetainsInTurn R s xs ys
      → ys ≡ map writes (filter keeps xs)
  retains_filtered [] ys r = r
  retains_filtered (x ∷ xs) ys (b, t, y, called, zs, rest, is) =
      let p = pure x b t y called in
      let kept : zs ≡ map writes (filter keeps xs) = retains_filtered xs zs
      (subst (λ v. RetainsInTurn R v xs zs) p.0 rest) in
      let one : ys ≡ cond (keeps x) (writes x ∷ map writes (filter keeps xs))
      (map writes (filter keeps xs)) = rw (is, p.1, p.2, kept) refl in
      one ∙ elim (keeps x) as (λ v. cond v (writes x ∷ map writes (filter keeps xs))
      (map writes (filter keeps xs)) ≡ map writes
      (cond v (x ∷ filter keeps xs) (filter keeps xs))) [ true ↦ refl | false ↦ refl ]

-- ---- `dedup_by`, by any test

module _ {S A : Type 0} (R : S → A → A → Bool → S → A → A → Type 0) where
  stays_from : (s : S) (k : A) (xs ys : List A) → DedupsFrom R s k xs ys → 0 < length ys
  stays_from s k [] ys d = rw d (Prim.omega arith)
  stays_from s k (x ∷ xs) ys (true, t, x', k', called, rest) = stays_from t k' xs ys rest
  stays_from s k (x ∷ xs) ys (false, t, x', k', called, rest) = rw rest.2 (Prim.omega arith)

  -- At least one item stays.
  pub stays : (s : S) (xs ys : List A) → IsDeduped R s xs ys → 0 < length xs → 0 < length ys
  stays s [] ys d some = absurd (Prim.omega (arith, some))
  stays s (x ∷ xs) ys d some = stays_from s x xs ys d.told

-- ---- by a test that is a function of the items

module _ {A : Type 0} (same : A → A → Bool) where
  abbrev goes_on : List A → A → Bool
  goes_on = by_first (λ kept later. same later kept)

  firsts_from : (xs : List A) (k : A) (run : List A)
      → dedup_from same k xs ≡ heads (runs_from goes_on (k ∷ run) xs)
  firsts_from [] k run = refl
  firsts_from (x ∷ xs) k run =
      elim (same x k) as (λ b. cond b (dedup_from same k xs) (k ∷ dedup_from same x xs)
      ≡ heads (cond b (runs_from goes_on (k ∷ (run ++ x ∷ [])) xs)
      ((k ∷ run) ∷ runs_from goes_on (x ∷ []) xs))) [
        | true ↦ firsts_from xs k (run ++ x ∷ [])
        | false ↦ ap (λ l. k ∷ l) (firsts_from xs x [])
      ]

  first_from : (xs : List A) (k : A) → slice_get (dedup_from same k xs) 0 ≡ Some k
  first_from [] k = refl
  first_from (x ∷ xs) k = elim (same x k) as (λ b.
      slice_get (cond b (dedup_from same k xs) (k ∷ dedup_from same x xs)) 0 ≡ Some k)
      [ true ↦ first_from xs k | false ↦ refl ]

  -- The items that `dedup` keeps are the first items of the runs.
  pub keeps_firsts : (xs ys : List A) → ys ≡ dedup same xs
      → KeepsFirsts (λ kept later. same later kept) xs ys
  unfolding runs_of
  keeps_firsts [] ys e = (e, ap (λ l. slice_get l 0) e)
  keeps_firsts (x ∷ xs) ys e =
      (e ∙ firsts_from xs x [], ap (λ l. slice_get l 0) e ∙ first_from xs x)

  kept_from : (xs : List A) (k : A) → 0 < length (dedup_from same k xs)
  kept_from [] k = Prim.omega arith
  kept_from (x ∷ xs) k = elim (same x k) as (λ b.
      0 < length (cond b (dedup_from same k xs) (k ∷ dedup_from same x xs)))
      [ true ↦ kept_from xs k | false ↦ Prim.omega arith ]

  pub some_kept : (xs ys : List A) → ys ≡ dedup same xs → 0 < length xs → 0 < length ys
  some_kept [] ys e some = absurd (Prim.omega (arith, some))
  some_kept (x ∷ xs) ys e some = rw e (kept_from xs x)
