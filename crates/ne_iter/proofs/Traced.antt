-- The readings of a source, as runs in std's terms.
use Rattle.std.proofs.Common.{refl, subst, sym, ap, arith}
use Rattle.std.proofs.iter.runs.Made.{run, took}
use Rattle.std.proofs.lemmas.Option.{slice_get_within, get_or_from_slice_get}
use Rattle.std.specs.Prelude.{zero, suc, ◌<◌, [], ◌∷◌, map, ◌≡◌, ℕ, Bool, true, false, List, length}
use Rattle.std.specs.Prelude.{Contains, Option, Some, None, IsSomeAnd, IfSome, slice_get}
use Rattle.std.specs.Prelude.{slice_index_or}
use Rattle.std.specs.Option.{option_map}
use Rattle.std.specs.Iterator.Runs.{Run, AllItems, AnyItem}
use Rattle.std.specs.List.{IsFirstBest}
use Rattle.ne_iter.specs.Sources.{Reads, SomeRunOf, WholeRunOf, BeginsRuns}

module _ {U S A : Type 0} {becomes : U → S → Type 0} {steps : S → Option A → S → Type 0} {u : U}
    {xs : List A} where
  pub run_of : {whole : Bool} → Reads becomes steps whole u xs → (P : List A → Type 0) → P xs
      → SomeRunOf becomes steps u (λ p. (p.whole ≡ whole) × P p.items)
  run_of {whole} h P k = (h.it, h.made, (run steps h.it xs whole h.given, refl, (refl, k)))

  pub whole_run_of : (h : Reads becomes steps true u xs) → (P : Run steps → Type 0)
      → P (run steps h.it xs true h.given) → WholeRunOf becomes steps u P
  whole_run_of h P k = (h.it, h.made, (run steps h.it xs true h.given, refl, refl, k))

module _ {A : Type 0} (beats : A → A → Bool) (xs : List A) (m : A) (place : ℕ)
    (best : IsFirstBest beats xs (length xs) place) (here : slice_get xs place ≡ Some m) where
  pub unbeaten_at : (k : ℕ) (o : Option A) → slice_get xs k ≡ o → IfSome o (λ x. beats x m ≡ false)
  unbeaten_at k None e = tt
  unbeaten_at k (Some x) e =
      subst (λ y. beats x y ≡ false) (get_or_from_slice_get xs place m x here)
      (subst (λ y. beats y (slice_index_or xs place x) ≡ false) (get_or_from_slice_get xs k x x e)
      (best.1 k x (slice_get_within xs k x e)))

  -- The best item of a list is an item of a run that yielded the list, and no item beats it.
  pub best_run_of : {U S : Type 0} {becomes : U → S → Type 0} {steps : S → Option A → S → Type 0}
      {u : U} → Reads becomes steps true u xs
      → WholeRunOf becomes steps u (λ p. AnyItem p (λ x. x ≡ m)
      × AllItems p (λ x. beats x m ≡ false)
      × ((zs : List A) → p.items ≡ zs → Contains zs m))
  best_run_of {steps = steps} h = (
    h.it,
    h.made,
    (
      run steps h.it xs true h.given,
      refl,
      refl,
      (
        (place, best.0, subst (λ o. IsSomeAnd o (λ x. x ≡ m)) (sym here) refl),
        λ k. unbeaten_at k (slice_get xs k) refl,
        λ zs same. subst (λ l. Contains l m) same
            (place, best.0, get_or_from_slice_get xs place m m here),
      ),
    ),
  )

-- A mapped list, place by place.
pub indexes : {A B : Type 0} (xs : List A) (v : A → B) → (length (map v xs) ≡ length xs)
    × ((k : ℕ) (d : B) → k < length xs → option_map v (slice_get xs k)
    ≡ Some (slice_index_or (map v xs) k d))
indexes [] v = (refl, λ k d l. absurd (omega (arith, l)))
indexes (x ∷ xs) v = let h = indexes xs v in (ap (λ n. suc n) h.0, λ k d l. at k d l (h.1))
  where
    at : (k : ℕ) (d : _) → k < length (x ∷ xs)
        → ((k : ℕ) (d : _) → k < length xs → option_map v (slice_get xs k)
        ≡ Some (slice_index_or (map v xs) k d))
        → option_map v (slice_get (x ∷ xs) k) ≡ Some (slice_index_or (map v (x ∷ xs)) k d)
    at zero d l h = refl
    at (suc k) d l h = h k d (omega (arith, l))

-- A run after a first item.
pub begins : {S A : Type 0} (steps : S → Option A → S → Type 0) (P : List A → Type 0)
    → ((xs : List A) → P xs) → (it : S) (x : A) (rest : S) → steps it (Some x) rest
    → BeginsRuns steps P x rest it
begins steps P law it x rest h p seen from =
    let t = took p in (
      run steps it (x ∷ p.items) p.whole (
        t.0,
        (p.from, subst (steps it (Some x)) (sym from) h, t.1),
        t.2,
      ),
      refl,
      (refl, omega (arith, p.long), refl, law (x ∷ p.items)),
    )
