-- `skip` and `skip_while`: from a run of the iterator to the list that it yields.
use Rattle.std.proofs.Common.{arith, subst, sym, ap, ◌∙◌, append_assoc}
use Rattle.std.proofs.lemmas.List.{append-nil, drop_all, drop_at, drop-map, map-append}
use Rattle.std.specs.Prelude.{◌≡◌, ℕ, ◌≤◌, List, [], ◌∷◌, ◌++◌, length, Option, Some, None, refl}
use Rattle.std.specs.Prelude.{Bool, true, false, drop, zero, suc, ◌+◌, cond, ⊤, map}
use Rattle.std.specs.Borrow.{Bor}
use Rattle.std.specs.Fn.{Mut}
use Rattle.std.specs.Iterator.{YieldsThen, DrainsIf, ActsAsAt}
use Rattle.std.specs.Iterator.Adapters.{skip_source, skip_count, skip_steps, skip_while_source}
use Rattle.std.specs.Iterator.Adapters.{skip_while_callee, skip_while_done_skipping}
use Rattle.std.specs.Iterator.Adapters.{skip_while_steps}
use Rattle.std.specs.declared.iter.Skip.{Skip}
use Rattle.std.specs.declared.iter.SkipWhile.{SkipWhile}
use Rattle.std.proofs.lemmas.Bool.{MatchBool-at_true, MatchBool-at_false}
use Rattle.std.specs.List.{AllByRecursion, prefix_len}
use Rattle.ne_vec.specs.Lists.{IsPrefix}
use Rattle.ne_iter.specs.Sources.{Reads, EachReading, ReadsListThrough}
use Rattle.ne_iter.specs.Calls.{ReturnsEachAt}
use Rattle.ne_iter.specs.Skip.{FailsFirst, IsSkipped, IsSkippedWhile}
use Rattle.ne_iter.specs.LoopLaws.{Yields-append}
use Rattle.ne_iter.proofs.FunctionCalls.{same_results_at}
use Rattle.ne_iter.proofs.TakeWhile.{all_map}

module _ {S A : Type 0} (steps : S → Option A → S → Type 0) where
  none_passed : (xs : List A) (s u : S) (r : Option A) → length xs ≤ 0 → YieldsThen steps s xs r u
      → steps s r u
  none_passed [] s u r l y = subst (λ q. steps q r u) (sym y.1) y.2
  none_passed (x ∷ xs) s u r l y = absurd (omega arith)

  -- If nothing is left to skip, the result is the source's.
  DrainsIf-skip_none : {W : Type 0} (s : Skip S) (xs : List A) → skip_count s ≡ 0
      → DrainsIf (skip_steps steps) W s xs → DrainsIf steps W (skip_source s) xs
  DrainsIf-skip_none s [] e k = (
    skip_source k.0,
    ap skip_source k.1,
    λ w.
        let u = (k.2 w).0 in
        let h = subst (λ j. skip_steps steps j None u) (sym k.1) (k.2 w).1 in (
          skip_source u,
          subst (λ q. steps q None (skip_source u)) (ap skip_source k.1)
              (none_passed h.1.0 (skip_source s) (skip_source u) None (omega (arith, h.1.2, e))
              h.1.1),
        ),
  )
  DrainsIf-skip_none s (x ∷ xs) e k =
      let h = k.1.1 in
      let m = DrainsIf-skip_none k.1.0 xs h.0 (k.0, k.1.2, k.2) in (
        m.0,
        (
          skip_source k.1.0,
          none_passed h.1.0 (skip_source s) (skip_source k.1.0) (Some x)
              (omega (arith, h.1.2, e)) h.1.1,
          m.1,
        ),
        m.2,
      )

  DrainsIf-skip : (whole : Bool) (s : Skip S) (ys : List A)
      → DrainsIf (skip_steps steps) (whole ≡ true) s ys → (xs : List A)
      × DrainsIf steps (whole ≡ true) (skip_source s) xs × (ys ≡ drop (skip_count s) xs)
  DrainsIf-skip false s [] k = (
    [],
    (skip_source s, refl, λ e. cc e),
    sym (drop_all (skip_count s) [] (omega arith)),
  )
  DrainsIf-skip true s [] k =
      let u = (k.2 refl).0 in
      let h = subst (λ j. skip_steps steps j None u) (sym k.1) (k.2 refl).1 in (
        h.1.0,
        (h.1.1.0, h.1.1.1, λ _. (skip_source u, h.1.1.2)),
        sym (drop_all (skip_count s) h.1.0 h.1.2),
      )
  DrainsIf-skip whole s (y ∷ ys) k =
      let h = k.1.1 in
      let m = DrainsIf-skip_none k.1.0 ys h.0 (k.0, k.1.2, k.2) in (
        h.1.0 ++ y ∷ ys,
        (
          m.0,
          Yields-append steps h.1.0 (y ∷ ys) (skip_source s) h.1.1.0 m.0 h.1.1.1
              (skip_source k.1.0, h.1.1.2, m.1),
          m.2,
        ),
        sym (drop_at h.1.0 (y ∷ ys) (skip_count s) h.1.2),
      )

  pub IsSkipped-from_steps : {U : Type 0} (becomes : U → S → Type 0) (source : U) (n : ℕ)
      (result : Skip S) → becomes source (skip_source result) → skip_count result ≡ n
      → EachReading (Reads (λ s r. r ≡ s) (skip_steps steps)) result
      (IsSkipped (Reads becomes steps) n source)
  IsSkipped-from_steps becomes source n result made count whole ys h =
      let p = DrainsIf-skip whole result ys (subst
      (λ q. DrainsIf (skip_steps steps) (whole ≡ true) q ys) h.made h.given) in (
        p.0,
        record { it = skip_source result; made = made; given = p.1 },
        p.2 ∙ ap (λ m. drop m p.0) count,
      )

module _ {S A F : Type 0} (steps : S → Option A → S → Type 0)
    (calls : Mut F (Bor A × Unit {0}) Bool) where
  -- Once an item has failed, the result is the source's.
  DrainsIf-skip_while_begun : {W : Type 0} (s : SkipWhile S F) (xs : List A)
      → skip_while_done_skipping s ≡ true → DrainsIf (skip_while_steps steps calls) W s xs
      → DrainsIf steps W (skip_while_source s) xs
  DrainsIf-skip_while_begun s [] e k = (
    skip_while_source k.0,
    ap skip_while_source k.1,
    λ w. (
      skip_while_source (k.2 w).0,
      (MatchBool-at_true _ _
          (subst (λ q. skip_while_done_skipping q ≡ true) k.1 e) (k.2 w).1).0,
    ),
  )
  DrainsIf-skip_while_begun s (x ∷ xs) e k =
      let h = MatchBool-at_true _ _ e k.1.1 in
      let m = DrainsIf-skip_while_begun k.1.0 xs h.1 (k.0, k.1.2, k.2) in
      (m.0, (skip_while_source k.1.0, h.0, m.1), m.2)

  abbrev Begins : Bool → SkipWhile S F → List A → Type 0
  Begins whole s ys = (xs : List A) × (g : F)
      × DrainsIf steps (whole ≡ true) (skip_while_source s) (xs ++ ys)
      × ReturnsEachAt calls true (skip_while_callee s) xs g × FailsFirst calls g ys

  DrainsIf-skip_while : (whole : Bool) (s : SkipWhile S F) (ys : List A)
      → skip_while_done_skipping s ≡ false → DrainsIf (skip_while_steps steps calls) (whole ≡ true)
      s ys → Begins whole s ys
  DrainsIf-skip_while false s [] fresh k = (
    [],
    skip_while_callee s,
    (skip_while_source s, refl, λ e. cc e),
    refl,
    tt,
  )
  DrainsIf-skip_while true s [] fresh k =
      let u = (k.2 refl).0 in
      let h = MatchBool-at_false _ _ fresh (subst (λ j. skip_while_steps steps calls j None u)
      (sym k.1) (k.2 refl).1) in (
        h.0,
        h.1,
        subst (DrainsIf steps (true ≡ true) (skip_while_source s)) (sym (append-nil h.0))
            (h.2.0, h.2.1, λ _. (skip_while_source u, h.2.2)),
        h.3,
        tt,
      )
  DrainsIf-skip_while whole s (y ∷ ys) fresh k =
      let h = MatchBool-at_false _ _ fresh k.1.1 in
      let m = DrainsIf-skip_while_begun k.1.0 ys h.4.0 (k.0, k.1.2, k.2) in (
        h.0,
        h.1,
        (
          m.0,
          Yields-append steps h.0 (y ∷ ys) (skip_while_source s) h.2.0 m.0 h.2.1
              (skip_while_source k.1.0, h.2.2, m.1),
          m.2,
        ),
        h.3,
        (skip_while_callee k.1.0, h.4.1),
      )

  pub IsSkippedWhile-from_steps : {U : Type 0} (becomes : U → S → Type 0) (source : U) (f : F)
      (result : SkipWhile S F)
      → becomes source (skip_while_source result) → skip_while_callee result ≡ f
      → skip_while_done_skipping result ≡ false
      → EachReading (Reads (λ s r. r ≡ s) (skip_while_steps steps calls)) result
      (IsSkippedWhile (Reads becomes steps) calls source f)
  IsSkippedWhile-from_steps becomes source f result made callee fresh whole ys h =
      let p = DrainsIf-skip_while whole result ys fresh
      (subst (λ q. DrainsIf (skip_while_steps steps calls) (whole ≡ true) q ys) h.made h.given)
      in record {
        skipped = p.0;
        f_then = p.1;
        read = record { it = skip_while_source result; made = made; given = p.2 };
        called = subst (λ q. ReturnsEachAt calls true q p.0 p.1) callee p.3;
        fails = p.4;
      }

pub drop_prefix : {A : Type 0} (n : ℕ) (whole : Bool) (us more : List A)
    → (whole ≡ true → more ≡ []) → IsPrefix whole (drop n (us ++ more)) (drop n us)
drop_prefix zero whole us more ended = (more, refl, ended)
drop_prefix (suc n) whole [] more ended = (
  drop (suc n) more,
  refl,
  λ w. ap (drop (suc n))
      (ended w),
)
drop_prefix (suc n) whole (u ∷ us) more ended = drop_prefix n whole us more ended

-- The first of ys, if there is one, does not pass.
abbrev pub FailsTest : {A : Type 0} → (A → Bool) → List A → Type 0
FailsTest test [] = ⊤
FailsTest test (y ∷ ys) = test y ≡ false

-- A first item for which the test may return false does not pass.
fails_test : {F A : Type 0} (calls : Mut F (Bor A × Unit {0}) Bool) (f : F) (test : A → Bool)
    (ys : List A) → ActsAsAt calls f test → FailsFirst calls f ys → FailsTest test ys
fails_test calls f test [] acts h = tt
fails_test calls f test (y ∷ ys) acts (q, call) = sym (acts y false q call).1

module _ {A : Type 0} (test : A → Bool) where
  prefix_pass : (u : A) (l : List A) → test u ≡ true
      → prefix_len test (u ∷ l) ≡ suc (prefix_len test l)
  prefix_pass u l e =
      let one : 1 + prefix_len test l ≡ suc (prefix_len test l) = omega arith in
      ap (λ b. cond b (1 + prefix_len test l) 0) e ∙ one

  -- Items that pass are skipped.
  drop_passed : (us l : List A) → AllByRecursion (λ x. test x ≡ true) us
      → drop (prefix_len test (us ++ l)) (us ++ l) ≡ drop (prefix_len test l) l
  drop_passed [] l h = refl
  drop_passed (u ∷ us) l h =
      ap (λ n. drop n (u ∷ (us ++ l))) (prefix_pass u (us ++ l) h.0) ∙ drop_passed us l h.1

  -- Up to the first item that does not pass, if it was yielded.
  pub drop_passed_prefix : (whole : Bool) (xs us ys : List A)
      → AllByRecursion (λ x. test x ≡ true) us → FailsTest test ys
      → IsPrefix whole xs (us ++ ys) → IsPrefix whole (drop (prefix_len test xs) xs) ys
  drop_passed_prefix whole xs us [] h fails f =
      let same = ap (λ l. drop (prefix_len test l) l)
      (f.1 ∙ ap (λ l. l ++ f.0) (append-nil us)) ∙ drop_passed us f.0 h in
      (drop (prefix_len test f.0) f.0, same, λ w. ap (λ l. drop (prefix_len test l) l) (f.2 w))
  drop_passed_prefix whole xs us (y ∷ ys) h fails f =
      let same = ap (λ l. drop (prefix_len test l) l)
      (f.1 ∙ append_assoc us (y ∷ ys) f.0) ∙ drop_passed us ((y ∷ ys) ++ f.0) h in
      let none = ap (λ b. cond b (1 + prefix_len test (ys ++ f.0)) 0) fails in
      (f.0, same ∙ ap (λ n. drop n ((y ∷ ys) ++ f.0)) none, f.2)

module _ {A B : Type 0} (view : A → B) where
  pub fails_map : (test : B → Bool) (ys : List A) → FailsTest (λ x. test (view x)) ys
      → FailsTest test (map view ys)
  fails_map test [] h = tt
  fails_map test (y ∷ ys) h = h

module _ {U V A S T : Type 0} {becomes : U → S → Type 0} {steps : S → Option A → S → Type 0}
    {made : V → T → Type 0} {u : U} {v : V} where
  module _ {next : T → Option A → T → Type 0} where
    module _ (n : ℕ) (gives : EachReading (Reads made next) v (IsSkipped (Reads becomes steps) n u))
      where
        pub skip_view : {B : Type 0} (view : A → B) (xs : List B)
            → ReadsListThrough (Reads becomes steps) view u xs
            → ReadsListThrough (Reads made next) view v (drop n xs)
        skip_view view xs list whole ys read =
            let parts = gives whole ys read in
            let viewed = map view parts.0 in
            let prefix = list whole parts.0 parts.1 in
            subst (IsPrefix whole (drop n xs))
            (drop-map view n parts.0 ∙ sym (ap (map view) parts.2))
            (subst (λ l. IsPrefix whole (drop n l) (drop n viewed)) (sym prefix.1)
            (drop_prefix n whole viewed prefix.0 prefix.2))

    module _ {F : Type 0} {calls : Mut F (Bor A × Unit {0}) Bool} {f : F} {B : Type 0}
        (view : A → B) (test : B → Bool) (xs : List B)
        (acts : ActsAsAt calls f (λ x. test (view x)))
        (list : ReadsListThrough (Reads becomes steps) view u xs) where
      pub skip_while_view : EachReading (Reads made next) v (IsSkippedWhile (Reads becomes steps)
          calls u f)
          → ReadsListThrough (Reads made next) view v (drop (prefix_len test xs) xs)
      skip_while_view gives whole ys read =
          let passes : A → Bool = λ x. test (view x) in
          let parts = gives whole ys read in
          let us = parts.skipped in
          let passed = same_results_at calls f passes _ us parts.f_then acts parts.called in
          let fails = fails_test calls f passes ys acts
          (subst (λ q. FailsFirst calls q ys) passed.1 parts.fails) in
          drop_passed_prefix test whole xs (map view us) (map view ys)
          (all_map view test us passed.0) (fails_map view test ys fails)
          (subst (IsPrefix whole xs) (map-append view us ys) (list whole _ parts.read))
