-- `take`: from a run of its iterator to the list that it yields.
use Rattle.std.proofs.Common.{arith, subst, ap, ◌∙◌, sym}
use Rattle.std.specs.Prelude.{◌<◌, ◌≤◌, List, [], ◌∷◌, length, Option, zero, suc, ◌≡◌, ℕ, ◌-◌}
use Rattle.std.specs.Prelude.{Bool, true, ◌&&◌, ltb, ◌++◌, take, refl, map}
use Rattle.std.specs.Iterator.{DrainsIf}
use Rattle.std.specs.Iterator.Adapters.{take_source, take_count, take_steps}
use Rattle.std.specs.declared.iter.Take.{Take}
use Rattle.std.proofs.lemmas.Bool.{lt-ltb, and_from}
use Rattle.std.proofs.lemmas.List.{length-map}
use Rattle.ne_vec.specs.Lists.{IsPrefix, Lists, YieldsThrough, EachView, View}
use Rattle.ne_iter.specs.Sources.{ReadsListThrough, EachReading, Reads}
use Rattle.ne_iter.specs.Take.{IsTaken}
use Rattle.ne_iter.proofs.SourceLists.{through_reads, each_view}

pub DrainsIf-take : {W S A : Type 0} (steps : S → Option A → S → Type 0) (s : Take S) (xs : List A)
    → DrainsIf (take_steps steps) W s xs → DrainsIf steps (W × (length xs < take_count s))
    (take_source s) xs × (length xs ≤ take_count s)
DrainsIf-take steps s [] (t, e, fin) = (
  (
    take_source t,
    cc,
    λ w.
        (take_source (fin w.0).0, (fin w.0).1 (subst (λ q. 0 < take_count q) e w.1)),
  ),
  omega arith,
)
DrainsIf-take steps s (x ∷ xs) (t, (j, st, rest), fin) =
    let ih = DrainsIf-take steps j xs (t, rest, fin) in (
      (ih.0.0, (take_source j, st.0, ih.0.1), λ w. ih.0.2 (w.0, omega (arith, w.1, st.1))),
      omega (arith, ih.1, st.1),
    )

take_append : {A : Type 0} (n : ℕ) (ys more : List A) → length ys ≤ n
    → take n (ys ++ more) ≡ ys ++ take (n - length ys) more
take_append n [] more h = let e : n ≡ n - 0 = omega arith in ap (λ k. take k more) e
take_append zero (y ∷ ys) more h = absurd (omega (arith, h))
take_append (suc n) (y ∷ ys) more h =
    let e : n - length ys ≡ suc n - suc (length ys) = omega arith in
    ap (λ l. y ∷ l) (take_append n ys more (omega (arith, h)) ∙ ap (λ k. ys ++ take k more) e)

take_nil : {A : Type 0} (k : ℕ) → take {A = A} k [] ≡ []
take_nil zero = refl
take_nil (suc k) = refl

none_taken : {A : Type 0} (n len : ℕ) (whole : Bool) (more : List A) → len ≤ n
    → ((whole && ltb len n) ≡ true → more ≡ []) → whole ≡ true → take (n - len) more ≡ []
none_taken n len whole [] h all full = take_nil (n - len)
none_taken n len whole (x ∷ more) h all full =
    let tests = λ (less : len < n). all (and_from whole _ full (lt-ltb len n less)) in
    let less : ¬ (len < n) = λ l. let e = tests l in cc in
    let e : n - len ≡ 0 = omega (arith, less) in
    ap (λ k. take k (x ∷ more)) e

pub take_prefix : {A : Type 0} (n : ℕ) (whole : Bool) (xs us : List A) → length us ≤ n
    → IsPrefix (whole && ltb (length us) n) xs us → IsPrefix whole (take n xs) us
take_prefix n whole xs us short f = (
  take (n - length us) f.0,
  ap (take n) f.1 ∙ take_append n us f.0 short,
  none_taken n (length us) whole f.0 short f.2,
)

module _ {U V A S T : Type 0} {becomes : U → S → Type 0} {steps : S → Option A → S → Type 0}
    {made : V → T → Type 0} {u : U} {v : V} where
  module _ {next : T → Option A → T → Type 0} where
    module _ {n : ℕ} (gives : EachReading (Reads made next) v (IsTaken (Reads becomes steps) n u))
      where
        pub take_view : {B : Type 0} (view : A → B) (xs : List B)
            → ReadsListThrough (Reads becomes steps) view u xs
            → ReadsListThrough (Reads made next) view v (take n xs)
        take_view view xs list whole ys read =
            let behind = gives whole ys read in
            let viewed = map view ys in
            let long = sym (length-map ys view) in
            take_prefix n whole xs viewed (subst (λ len. len ≤ n) long behind.1)
            (subst (λ len. IsPrefix (whole && ltb len n) xs viewed) long (list _ ys behind.0))

module _ {U V A S T : Type 0} {becomes : U → S → Type 0} {steps : S → Option A → S → Type 0}
    {made : V → T → Type 0} {u : U} {v : V} (view : View A) where
  pub takes_lists : {next : T → Option A → T → Type 0} {n : ℕ}
      → EachReading (Reads made next) v (IsTaken (Reads becomes steps) n u)
      → EachView view (λ view. Lists becomes steps view.of) u (λ view xs.
      YieldsThrough made next view.of v (take n xs))
  takes_lists {next} {n} gives = each_view (λ view xs. YieldsThrough made next view.of v
      (take n xs))
      view (λ view xs known. through_reads made next v view.of (take n xs)
      (take_view gives view.of xs known))
