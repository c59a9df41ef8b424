-- The results of the methods that may stop early, from the list that their source yields, if their
-- closure acts as a test.
use Rattle.std.proofs.Common.{arith, sym, subst, ap, ◌∙◌}
use Rattle.std.proofs.lemmas.List.{length-map}
use Rattle.std.specs.Prelude.{◌≡◌, ℕ, zero, suc, ◌≤◌, ◌&&◌, ◌||◌, Bool, true, false, cond, List, []}
use Rattle.std.specs.Prelude.{◌∷◌, ◌++◌, length, map, slice_get, Option, Some, None, refl}
use Rattle.std.specs.Borrow.{Bor}
use Rattle.std.specs.Fn.{Mut, Called, CalledAt}
use Rattle.std.specs.Iterator.{ActsAs, ActsAsAt, ChecksAll, ChecksAny, FindsItem, SkipsThenYields}
use Rattle.std.specs.Iterator.{YieldsThen}
use Rattle.std.specs.List.{AllByRecursion, find, list_all, list_any}
use Rattle.std.specs.Option.{option_map}
use Rattle.ne_iter.specs.Sources.{Reads, ReadsListThrough}
use Rattle.ne_iter.specs.Calls.{ReturnsEach}
use Rattle.ne_iter.proofs.FunctionCalls.{same_results, same_results_at}
use Rattle.ne_iter.specs.LoopLaws.{Yields-append}
use Rattle.ne_iter.specs.LoopLaws.{whole_prefix}

module _ {A B : Type 0} (view : A → B) (test : B → Bool) where
  all_pass : (us : List A) → AllByRecursion (λ x. test (view x) ≡ true) us
      → list_all test (map view us) ≡ true
  all_pass [] h = refl
  all_pass (u ∷ us) h = ap (λ b. b && list_all test (map view us)) h.0 ∙ all_pass us h.1

  one_fails : (us : List A) (more : List B) (x : A)
      → AllByRecursion (λ x. test (view x) ≡ true) us → test (view x) ≡ false
      → list_all test (map view (us ++ x ∷ []) ++ more) ≡ false
  one_fails [] more x h e = ap (λ b. b && list_all test more) e
  one_fails (u ∷ us) more x h e = ap (λ b. b && list_all test (map view (us ++ x ∷ []) ++ more)) h.0
      ∙ one_fails us more x h.1 e

  none_passes : (us : List A) → AllByRecursion (λ x. test (view x) ≡ false) us
      → (list_any test (map view us) ≡ false) × (find test (map view us) ≡ None)
  none_passes [] h = (refl, refl)
  none_passes (u ∷ us) h =
      let rest = none_passes us h.1 in
      let l = map view us in (
        ap (λ b. b || list_any test l) h.0 ∙ rest.0,
        ap (λ b. cond b (Some (view u)) (find test l)) h.0 ∙ rest.1,
      )

  one_passes : (us : List A) (more : List B) (x : A)
      → AllByRecursion (λ x. test (view x) ≡ false) us → test (view x) ≡ true
      → (list_any test (map view (us ++ x ∷ []) ++ more) ≡ true)
      × (find test (map view (us ++ x ∷ []) ++ more) ≡ Some (view x))
  one_passes [] more x h e =
      (ap (λ b. b || list_any test more) e, ap (λ b. cond b (Some (view x)) (find test more)) e)
  one_passes (u ∷ us) more x h e =
      let rest = one_passes us more x h.1 e in
      let l = map view (us ++ x ∷ []) ++ more in (
        ap (λ b. b || list_any test l) h.0 ∙ rest.0,
        ap (λ b. cond b (Some (view u)) (find test l)) h.0 ∙ rest.1,
      )

after : {A B : Type 0} (view : A → B) (us : List A) (more : List B) (x : A)
    → slice_get (map view (us ++ x ∷ []) ++ more) (length us) ≡ Some (view x)
after view [] more x = refl
after view (u ∷ us) more x = after view us more x

beyond : {A : Type 0} (us : List A) (n : ℕ) → length us ≤ n → slice_get us n ≡ None
beyond [] n h = refl
beyond (u ∷ us) zero h = absurd (omega (arith, h))
beyond (u ∷ us) (suc n) h = beyond us n (omega (arith, h))

module _ {U S A B : Type 0} (becomes : U → S → Type 0) (steps : S → Option A → S → Type 0) (u : U)
    (view : A → B) (xs : List B) (list : ReadsListThrough (Reads becomes steps) view u xs)
    (it t : S)
    (made : becomes u it) where
  -- If the source ended after the items us, they are all items.
  all_came : (us : List A) → YieldsThen steps it us None t → xs ≡ map view us
  all_came us run = sym (whole_prefix xs (map view us) (list true us
      (record { it = it; made = made; given = (run.0, run.1, λ _. (t, run.2)) })))

  -- If x was yielded after the items us, they are a prefix of the list, and x is the next item.
  then_came : (us : List A) (x : A) → YieldsThen steps it us (Some x) t
      → (more : List B) × (xs ≡ map view (us ++ x ∷ []) ++ more)
  then_came us x run =
      let f = list false (us ++ x ∷ []) (record {
        it = it;
        made = made;
        given = (t, Yields-append steps us (x ∷ []) it run.0 t run.1 (t, run.2, refl), λ e. cc e);
      }) in
      (f.0, f.1)

  -- The result of `nth`.
  pub views_nth : (n : ℕ) (r : Option A) → SkipsThenYields steps it n r t
      → option_map view r ≡ slice_get xs n
  views_nth n None (us, run, short) =
      sym (ap (λ l. slice_get l n) (all_came us run)
      ∙ beyond (map view us) n (subst (λ len. len ≤ n) (sym (length-map us view)) short))
  views_nth n (Some x) (us, run, long) =
      let f = then_came us x run in
      sym (ap (λ l. slice_get l n) f.1
      ∙ ap (slice_get (map view (us ++ x ∷ []) ++ f.0)) (sym long) ∙ after view us f.0 x)

  module _ {F : Type 0} (test : B → Bool) (f : F) where
    module _ (calls : Mut F (A × Unit {0}) Bool) (acts : ActsAs calls f (λ x. test (view x))) where
      -- f returned y for the items us, and is then g; for x, after them, it returned z.
      same : (y : Bool) (us : List A) (g : F) → ReturnsEach calls y f us g
          → AllByRecursion (λ x. test (view x) ≡ y) us
      same y us g each = (same_results calls f (λ x. test (view x)) y us g acts each).0

      last : (y z : Bool) (us : List A) (x : A) (g h : F) → ReturnsEach calls y f us g
          → Called calls g (x, tt) z h → test (view x) ≡ z
      last y z us x g h each call = sym (acts x z h (subst (λ q. Called calls q (x, tt) z h)
          (same_results calls f (λ x. test (view x)) y us g acts each).1 call)).1

      -- The result of `all`.
      pub views_all : (r : Bool) → ChecksAll steps calls it f r t → r ≡ list_all test xs
      views_all r (us, None, g, run, each, e) =
          e ∙ sym (ap (list_all test) (all_came us run) ∙ all_pass view test us
          (same true us g each))
      views_all r (us, Some x, g, run, each, end) =
          let f = then_came us x run in
          end.0 ∙ sym (ap (list_all test) f.1
          ∙ one_fails view test us f.0 x (same true us g each)
          (last true false us x g end.1.0 each end.1.1))

      -- The result of `any`.
      pub views_any : (r : Bool) → ChecksAny steps calls it f r t → r ≡ list_any test xs
      views_any r (us, None, g, run, each, e) =
          e ∙ sym (ap (list_any test) (all_came us run)
          ∙ (none_passes view test us (same false us g each)).0)
      views_any r (us, Some x, g, run, each, end) =
          let f = then_came us x run in
          end.0 ∙ sym (ap (list_any test) f.1
          ∙ (one_passes view test us f.0 x (same false us g each)
          (last false true us x g end.1.0 each end.1.1)).0)

    -- The result of `find`.
    pub views_first : (calls : Mut F (Bor A × Unit {0}) Bool)
        → ActsAsAt calls f (λ x. test (view x)) → (r : Option A) → FindsItem steps calls it f r t
        → option_map view r ≡ find test xs
    views_first calls acts None (us, g, run, each, found) =
        let failed = same_results_at calls f (λ x. test (view x)) false us g acts each in
        sym (ap (find test) (all_came us run) ∙ (none_passes view test us failed.0).1)
    views_first calls acts (Some x) (us, g, run, each, end) =
        let failed = same_results_at calls f (λ x. test (view x)) false us g acts each in
        let passed = acts x true end.0
        (subst (λ q. CalledAt calls q x true end.0) failed.1 end.1) in
        let f = then_came us x run in
        sym (ap (find test) f.1 ∙ (one_passes view test us f.0 x failed.0 (sym passed.1)).1)
