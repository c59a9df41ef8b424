-- `take_while`: from a run of its iterator to the list that it yields.
use Rattle.std.proofs.Common.{subst, sym, inl, inr, ◌⊎◌, ap, ◌∙◌, append_assoc}
use Rattle.std.specs.Prelude.{◌≡◌, List, [], ◌∷◌, ◌++◌, Option, Some, None, refl, Bool, true, false}
use Rattle.std.specs.Prelude.{MatchOption, cond, map}
use Rattle.std.specs.Bool.{MatchBool}
use Rattle.std.specs.Borrow.{Bor}
use Rattle.std.specs.Fn.{CalledAt, Mut}
use Rattle.std.specs.Iterator.{DrainsIf, ActsAsAt}
use Rattle.std.specs.Iterator.Adapters.{take_while_source, take_while_callee, take_while_done}
use Rattle.std.specs.Iterator.Adapters.{take_while_steps}
use Rattle.std.specs.declared.iter.TakeWhile.{TakeWhile}
use Rattle.std.proofs.lemmas.Bool.{MatchBool-at_false}
use Rattle.std.proofs.lemmas.List.Sums.{take_while-cons}
use Rattle.std.specs.List.{AllByRecursion, take_while}
use Rattle.std.proofs.lemmas.List.{map-append}
use Rattle.ne_vec.specs.Lists.{IsPrefix}
use Rattle.ne_iter.specs.Sources.{Reads, EachReading, ReadsListThrough}
use Rattle.ne_iter.specs.Calls.{ReturnsEachAt}
use Rattle.ne_iter.specs.TakeWhile.{IsTakenWhile, FailsAtItem}
use Rattle.ne_iter.proofs.FunctionCalls.{same_results_at}

module _ {S A F : Type 0} (steps : S → Option A → S → Type 0)
    (calls : Mut F (Bor A × Unit {0}) Bool) where
  -- The facts about a call that took o.
  abbrev Tested : TakeWhile S F → Option A → TakeWhile S F → Option A → Type 0
  Tested s r t o = MatchOption o ((r ≡ None) × (take_while_done t ≡ false))
      (λ x. (b : Bool) × CalledAt calls (take_while_callee s) x b (take_while_callee t)
      × MatchBool b ((r ≡ Some x) × (take_while_done t ≡ false))
      ((r ≡ None) × (take_while_done t ≡ true)))

  abbrev Taken : Bool → S → F → List A → Type 0
  Taken whole s f xs = (g : F) × ReturnsEachAt calls true f xs g
      × (DrainsIf steps (whole ≡ true) s xs ⊎
      ((x : A) × (h : F) × DrainsIf steps (false ≡ true) s (xs ++ x ∷ [])
      × CalledAt calls g x false h))

  taken_end : (s t : TakeWhile S F) (o : Option A)
      → steps (take_while_source s) o (take_while_source t) → Tested s None t o
      → Taken true (take_while_source s) (take_while_callee s) []
  taken_end s t None st e = (
    take_while_callee s,
    refl,
    inl (take_while_source s, refl, λ _. (take_while_source t, st)),
  )
  taken_end s t (Some x) st (true, c, e) = cc e.0
  taken_end s t (Some x) st (false, c, e) = (
    take_while_callee s,
    refl,
    inr (
      x,
      take_while_callee t,
      (
        take_while_source t,
        (take_while_source t, st, refl),
        λ w.
            cc w,
      ),
      c,
    ),
  )

  -- After an item x that passed.
  taken_behind : (whole : Bool) (x : A) (xs : List A) (s t : S) (f g : F) → steps s (Some x) t
      → CalledAt calls f x true g → Taken whole t g xs → Taken whole s f (x ∷ xs)
  taken_behind whole x xs s t f g st c (h, a, inl k) = (h, (g, c, a), inl (k.0, (t, st, k.1), k.2))
  taken_behind whole x xs s t f g st c (h, a, inr (y, i, k, stopped)) = (
    h,
    (g, c, a),
    inr (y, i, (k.0, (t, st, k.1), k.2), stopped),
  )

  taken_one : (whole : Bool) (s t : TakeWhile S F) (x : A) (xs : List A) (o : Option A)
      → steps (take_while_source s) o (take_while_source t) → Tested s (Some x) t o
      → (take_while_done t ≡ false → Taken whole (take_while_source t) (take_while_callee t) xs)
      → Taken whole (take_while_source s) (take_while_callee s) (x ∷ xs)
  taken_one whole s t x xs None st e m = cc e.0
  taken_one whole s t x xs (Some y) st (true, c, e) m =
      subst (λ q. Taken whole (take_while_source s) (take_while_callee s) (q ∷ xs))
      (let a = e.0 in cc)
      (taken_behind whole y xs (take_while_source s) (take_while_source t) (take_while_callee s)
      (take_while_callee t) st c (m e.1))
  taken_one whole s t x xs (Some y) st (false, c, e) m = cc e.0

  DrainsIf-take_while : (whole : Bool) (s : TakeWhile S F) (xs : List A) → take_while_done s ≡ false
      → DrainsIf (take_while_steps steps calls) (whole ≡ true) s xs
      → Taken whole (take_while_source s) (take_while_callee s) xs
  DrainsIf-take_while false s [] fresh k = (
    take_while_callee s,
    refl,
    inl (take_while_source s, refl, λ e. cc e),
  )
  DrainsIf-take_while true s [] fresh k =
      let u = (k.2 refl).0 in
      let h = MatchBool-at_false _ _ fresh (subst (λ j. take_while_steps steps calls j None u)
      (sym k.1) (k.2 refl).1) in
      taken_end s u h.0 h.1 h.2
  DrainsIf-take_while whole s (x ∷ xs) fresh k =
      let h = MatchBool-at_false _ _ fresh k.1.1 in
      taken_one whole s k.1.0 x xs h.0 h.1 h.2
      (λ e. DrainsIf-take_while whole k.1.0 xs e (k.0, k.1.2, k.2))

  taken_reads : {U : Type 0} (becomes : U → S → Type 0) (source : U) (it : S) (f : F) (whole : Bool)
      (xs : List A) → becomes source it → Taken whole it f xs
      → (g : F) × ReturnsEachAt calls true f xs g
      × (Reads becomes steps whole source xs
      ⊎ FailsAtItem (Reads becomes steps) calls source xs g)
  taken_reads becomes source it f whole xs made
      (g, a, inl k) = (g, a, inl record { it = it; made = made; given = k })
  taken_reads becomes source it f whole xs made
      (g, a, inr (x, h, k, stopped)) = (
        g,
        a,
        inr record {
          item = x;
          f_then = h;
          read = record { it = it; made = made; given = k };
          called = stopped;
        },
      )

  pub IsTakenWhile-from_steps : {U : Type 0} (becomes : U → S → Type 0) (source : U) (f : F)
      (result : TakeWhile S F)
      → becomes source (take_while_source result) → take_while_callee result ≡ f
      → take_while_done result ≡ false
      → EachReading (Reads (λ s r. r ≡ s) (take_while_steps steps calls)) result
      (IsTakenWhile (Reads becomes steps) calls source f)
  IsTakenWhile-from_steps becomes source f result made callee fresh whole xs h =
      let p = DrainsIf-take_while whole result xs fresh
      (subst (λ q. DrainsIf (take_while_steps steps calls) (whole ≡ true) q xs) h.made h.given)
      in
      taken_reads becomes source (take_while_source result) f whole xs made
      (subst (λ q. Taken whole (take_while_source result) q xs) callee p)

module _ {A : Type 0} (test : A → Bool) where
  take_passed : (us l : List A) → AllByRecursion (λ x. test x ≡ true) us
      → take_while test (us ++ l) ≡ us ++ take_while test l
  take_passed [] l h = refl
  take_passed (u ∷ us) l h =
      take_while-cons test u (us ++ l)
      ∙ ap (λ b. cond b (u ∷ take_while test (us ++ l)) []) h.0
      ∙ ap (λ l. u ∷ l) (take_passed us l h.1)

  pub take_passed_prefix : (whole : Bool) (xs us : List A)
      → AllByRecursion (λ x. test x ≡ true) us
      → IsPrefix whole xs us → IsPrefix whole (take_while test xs) us
  take_passed_prefix whole xs us h f = (
    take_while test f.0,
    ap (take_while test) f.1 ∙ take_passed us f.0 h,
    λ w. ap (take_while test) (f.2 w),
  )

  -- An item x was yielded that does not pass.
  pub take_passed_stopped : (whole : Bool) (xs us : List A) (x : A)
      → AllByRecursion (λ x. test x ≡ true) us → test x ≡ false
      → IsPrefix false xs (us ++ x ∷ []) → IsPrefix whole (take_while test xs) us
  take_passed_stopped whole xs us x h fails f = (
    [],
    ap (take_while test) (f.1 ∙ append_assoc us (x ∷ []) f.0) ∙ take_passed us (x ∷ f.0) h
        ∙ ap (λ l. us ++ l) (take_while-cons test x f.0
        ∙ ap (λ b. cond b (x ∷ take_while test f.0) []) fails),
    λ _. refl,
  )

module _ {A B : Type 0} (view : A → B) where
  pub all_map : (test : B → Bool) (us : List A) → AllByRecursion (λ x. test (view x) ≡ true) us
      → AllByRecursion (λ x. test x ≡ true) (map view us)
  all_map test [] h = tt
  all_map test (u ∷ us) h = (h.0, all_map test us h.1)

-- The source has ended, or an item was yielded that does not pass.
stopped : {U A B F : Type 0} (reads : Bool → U → List A → Type 0)
    (calls : Mut F (Bor A × Unit {0}) Bool) (f q : F) (view : A → B) (test : B → Bool) (u : U)
    (xs : List B) (us : List A) (whole : Bool) → ActsAsAt calls f (λ x. test (view x)) → q ≡ f
    → ReadsListThrough reads view u xs → AllByRecursion (λ x. test x ≡ true) (map view us)
    → reads whole u us ⊎ FailsAtItem reads calls u us q
    → IsPrefix whole (take_while test xs) (map view us)
stopped reads calls f q view test u xs us whole acts same list passed (inl read) =
    take_passed_prefix test whole xs (map view us) passed (list whole us read)
stopped reads calls f q view test u xs us whole acts same list passed (inr last) =
    let x = last.item in
    let from_f = subst (λ q. CalledAt calls q x false last.f_then) same last.called in
    take_passed_stopped test whole xs (map view us) (view x) passed
    (sym (acts x false last.f_then from_f).1)
    (subst (IsPrefix false xs) (map-append view us (x ∷ [])) (list false (us ++ x ∷ []) last.read))

module _ {U V A S T : Type 0} {becomes : U → S → Type 0} {steps : S → Option A → S → Type 0}
    {made : V → T → Type 0} {u : U} {v : V} where
  module _ {next : T → Option A → T → Type 0} where
    module _ {F : Type 0} {calls : Mut F (Bor A × Unit {0}) Bool} {f : F} {B : Type 0}
        (view : A → B) (test : B → Bool) (xs : List B)
        (acts : ActsAsAt calls f (λ x. test (view x)))
        (list : ReadsListThrough (Reads becomes steps) view u xs) where
      pub take_while_view : EachReading (Reads made next) v (IsTakenWhile (Reads becomes steps)
          calls u f)
          → ReadsListThrough (Reads made next) view v (take_while test xs)
      take_while_view gives whole us read =
          let passes : A → Bool = λ x. test (view x) in
          let parts = gives whole us read in
          let passed = same_results_at calls f passes true us parts.0 acts parts.1 in
          stopped (Reads becomes steps) calls f parts.0 view test u xs us whole acts passed.1 list
          (all_map view test us passed.0) parts.2
