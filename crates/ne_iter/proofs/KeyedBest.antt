-- The best of items by their keys, if the keys are the values of a function.
use Rattle.std.proofs.Common.{arith, sym, ap, subst, ◌∙◌}
use Rattle.std.proofs.lemmas.List.{length-map, take-map}
use Rattle.std.proofs.lemmas.List.Elements.{All-map}
use Rattle.std.proofs.lemmas.Option.{get_or_from_slice_get, slice_get_within, slice_get-map}
use Rattle.std.proofs.lemmas.Option.{same_Some}
use Rattle.std.proofs.lemmas.Simd.{map-map}
use Rattle.std.specs.Prelude.{◌≡◌, ℕ, zero, suc, Bool, false, true, List, [], ◌∷◌, map, take}
use Rattle.std.specs.Prelude.{slice_get, All, Option, None, Some, IfSome, IsSomeAnd, refl}
use Rattle.std.specs.Option.{option_map}
use Rattle.std.specs.Borrow.{Bor}
use Rattle.std.specs.Fn.{CalledAt, Mut}
use Rattle.std.specs.Iterator.{ActsAsAt}
use Rattle.std.specs.Iterator.Runs.{AnyItem, CallKeepsClosure}
use Rattle.ne_vec.specs.Lists.{EachView, Lists, View}
use Rattle.ne_iter.specs.Consumers.{HasBestKey, IsBestOfList, IsFirstLeast, NoKeyBeats}
use Rattle.ne_iter.specs.Calls.{CallsEachAt}
use Rattle.ne_iter.specs.Keys.{items_of}
use Rattle.ne_iter.specs.Sources.{Reads, WholeRunOf}
use Rattle.ne_iter.proofs.Extremes.{best_of_list}
use Rattle.ne_iter.proofs.FunctionCalls.{values_at}
use Rattle.ne_iter.proofs.SourceLists.{each_view, read_through}
use Rattle.ne_iter.proofs.Traced.{unbeaten_at, whole_run_of}

-- If no call changes f, each call was a call of f itself.
called_at : {A B F : Type 0} (calls : Mut F (Bor A × Unit {0}) B) (f : F)
    → CallKeepsClosure calls f → (ps : List (A × B)) (g : F) → CallsEachAt calls f ps g
    → (i : ℕ) (p : A × B) → slice_get ps i ≡ Some p → CalledAt calls f p.0 p.1 f
called_at calls f keeps [] g calls_made i p here = let e = here in cc
called_at calls f keeps ((x, y) ∷ ps) g (q, call, rest) zero p here =
    let same = keeps (call.shown, tt) y q call.called in
    subst (λ p. CalledAt calls f p.0 p.1 f) (same_Some _ _ here)
    (subst (CalledAt calls f x y) same call)
called_at calls f keeps ((x, y) ∷ ps) g (q, call, rest) (suc i) p here =
    let same = keeps (call.shown, tt) y q call.called in
    called_at calls f keeps ps g (subst (λ q. CallsEachAt calls q ps g) same rest) i p here

module _ {A B F : Type 0} (calls : Mut F (Bor A × Unit {0}) B) (f : F) (beats : B → B → Bool)
    (ps : List (A × B)) (m : A) (k : B) (g : F) (calls_made : CallsEachAt calls f ps g)
    (best : IsFirstLeast (λ p q. beats p.1 q.1) ps (m, k)) where
  is : IsBestOfList (λ p q. beats p.1 q.1) ps (m, k)
  is = best_of_list (λ p q. beats p.1 q.1) ps (m, k) best

  place : ℕ
  place = is.2.0

  -- The item at its place, and its key.
  here : {C : Type 0} (h : A × B → C) → slice_get (map h ps) place ≡ Some (h (m, k))
  unfolding place
  here h = slice_get-map h ps place ∙ ap (option_map h) is.2.1

  module _ (view : View A) where
    abbrev zs : List view.Target
    zs = map view.of (items_of ps)

    at_best : slice_get zs place ≡ Some (view.of m)
    at_best = slice_get-map view.of (items_of ps) place ∙ ap (option_map view.of) (here (λ p. p.0))

    module _ (h : view.Target → B) (acts : ActsAsAt calls f (λ x. h (view.of x))) where
      -- The keys are the values of the function.
      keys_are : map (λ p. p.1) ps ≡ map h zs
      keys_are = ap (map (λ p. p.1)) (values_at calls f (λ x. h (view.of x)) ps g acts calls_made).0
          ∙ map-map (λ p. p.1) (λ x. (x, h (view.of x))) (items_of ps)
          ∙ sym (map-map h view.of (items_of ps))

      best_key : k ≡ h (view.of m)
      best_key = same_Some _ _ (sym (here (λ p. p.1)) ∙ ap (λ l. slice_get l place) keys_are
          ∙ slice_get-map h zs place ∙ ap (option_map h) at_best)

      -- What relates the best key to keys relates its function's value to the same.
      related : (R : B → B → Type 0) (ks js : List B) → ks ≡ js → All (R k) ks
          → All (R (h (view.of m))) js
      related R ks js same all =
          subst (All (R (h (view.of m)))) same (subst (λ b. All (R b) ks) best_key all)

    has_best_of_items : HasBestKey calls f view m beats zs
    unfolding place
    has_best_of_items =
        let key : A × B → B = λ p. p.1 in
        let n = place in (
          (
            n,
            slice_get_within zs n (view.of m) at_best,
            get_or_from_slice_get zs n (view.of m) (view.of m) at_best,
          ),
          λ h acts. (
            refl,
            related h acts (λ b j. beats j b ≡ false) (map key ps) (map h zs) (keys_are h acts)
                (All-map (λ j. beats j k ≡ false) key ps is.1),
          ),
          (
            n,
            at_best,
            λ h acts. (
              refl,
              related h acts (λ b j. beats b j ≡ true) (map key (take n ps)) (map h (take n zs))
                  (sym (take-map key n ps) ∙ ap (take n) (keys_are h acts) ∙ take-map h n zs)
                  (All-map (λ j. beats k j ≡ true) key (take n ps) is.2.2),
            ),
          ),
        )

  -- What holds for the list of each view.
  pub has_best_key : {U S : Type 0} (becomes : U → S → Type 0) (steps : S → Option A → S → Type 0)
      (u : U) (view : View A) → Reads becomes steps true u (items_of ps)
      → EachView view (λ view. Lists becomes steps view.of) u (λ view xs.
      HasBestKey calls f view m beats xs)
  has_best_key becomes steps u view read =
      each_view (λ view xs. HasBestKey calls f view m beats xs) view (λ view xs known.
      read_through becomes steps u view.of xs known (λ l. HasBestKey calls f view m beats l)
      (items_of ps) read (has_best_of_items view))

  at_place : CallKeepsClosure calls f → (i : ℕ) (o : Option (A × B)) → slice_get ps i ≡ o
      → IfSome (option_map (λ p. p.0) o)
      (λ x. (j : B) × CalledAt calls f x j f × (beats j k ≡ false))
  at_place keeps i None here = tt
  at_place keeps i (Some p) here = (
    p.1,
    called_at calls f keeps ps g calls_made i p here,
    unbeaten_at (λ p q. beats p.1 q.1) ps (m, k) best.0 best.1 best.2 i (Some p) here,
  )

  -- The item is in a run that yielded the items, and no key there beats its key.
  pub best_key_run_of : {U S : Type 0} {becomes : U → S → Type 0}
      {steps : S → Option A → S → Type 0} {u : U} → Reads becomes steps true u (items_of ps)
      → WholeRunOf becomes steps u (λ p.
      AnyItem p (λ x. x ≡ m) × NoKeyBeats p calls f beats m)
  best_key_run_of h =
      let item = slice_get-map (λ p. p.0) ps best.0 ∙ ap (option_map (λ p. p.0)) best.2 in
      whole_run_of h
      (λ p. AnyItem p (λ x. x ≡ m) × NoKeyBeats p calls f beats m) (
        (
          best.0,
          omega (arith, best.1.0, length-map ps (λ p. p.0)),
          subst (λ o. IsSomeAnd o (λ x. x ≡ m)) (sym item) refl,
        ),
        λ keeps. (
          k,
          called_at calls f keeps ps g calls_made best.0 (m, k) best.2,
          λ i. subst (λ o. IfSome o (λ x. (j : B) × CalledAt calls f x j f
              × (beats j k ≡ false))) (sym (slice_get-map (λ p. p.0) ps i))
              (at_place keeps i (slice_get ps i) refl),
        ),
      )
