-- `scan`: from a run of its iterator to the list that it yields.
use Rattle.std.specs.Prelude.{◌≡◌, List, [], ◌∷◌, Option, Bool, true, ◌++◌, map}
use Rattle.std.proofs.Common.{refl, subst, sym, ap, ◌∙◌}
use Rattle.std.specs.Borrow.{MutBor}
use Rattle.std.specs.Fn.{Mut, CalledWithState}
use Rattle.std.specs.List.{FoldsTo, scan}
use Rattle.std.specs.Iterator.{DrainsIf}
use Rattle.ne_vec.specs.Lists.{IsPrefix, Lists, YieldsItems, EachView, Naming, View}
use Rattle.ne_iter.specs.Calls.{CallsWithState, ActsAsWithState}
use Rattle.ne_iter.specs.Scan.{CallableInScan, ScansNext, scanned_from, state_of, callee_of}
use Rattle.ne_iter.specs.Scan.{IsScanned}
use Rattle.ne_iter.specs.declared.iter.scan.ScanIter.{ScanIter}
use Rattle.ne_iter.specs.Sources.{ReadsList, ReadsListThrough, EachReading, Reads}
use denote.Param.Always.{always_mut, mut_next}
use Rattle.ne_iter.proofs.SourceLists.{read_lists, each_view}

module _ {W I S A B F : Type 0} (steps : I → Option A → I → Type 0)
    (calls : Mut F (MutBor S × (A × Unit {0})) (B × (MutBor S × Unit {0}))) where
  pub DrainsIf-scan : (s : ScanIter I S F) (ys : List B) → DrainsIf (ScansNext steps calls) W s ys
      → (xs : List A) × (g : F) × (last : S) × DrainsIf steps W (scanned_from s) xs
      × CallsWithState calls (callee_of s) (state_of s) xs ys g last
  DrainsIf-scan s [] (t, e, fin) = (
    [],
    callee_of s,
    state_of s,
    (scanned_from t, cc, λ w. (scanned_from (fin w).0, (fin w).1.0)),
    (refl, refl),
  )
  DrainsIf-scan s (y ∷ ys) (t, (j, step, rest), fin) =
      let more = DrainsIf-scan j ys (t, rest, fin) in (
        step.0 ∷ more.0,
        more.1,
        more.2,
        (more.3.0, (scanned_from j, step.1, more.3.1), more.3.2),
        (callee_of j, state_of j, step.2, more.4),
      )

module _ {I S A B F : Type 0} (steps : I → Option A → I → Type 0)
    (calls : Mut F (MutBor S × (A × Unit {0})) (B × (MutBor S × Unit {0}))) where
  abbrev Turn : F × S → A → F × S → Type 0
  Turn p x q = (y : B) × CalledWithState calls p.0 p.1 x y q.0 q.1

  still_callable : (xs : List A) (p q : F × S)
      → FoldsTo {P = F × S} Turn p xs q → always_mut calls p.0 → always_mut calls q.0
  still_callable [] p q folds always = subst (λ r. always_mut calls r.0) folds always
  still_callable (x ∷ xs) p q folds always =
      let next = mut_next calls _ _ _ _ _ folds.1.1.called refl always in
      still_callable xs folds.0 q folds.2 next

  -- A closure that may always be called may be called in a scan.
  pub CallableInScan-always : (it : I) (f : F) (s : S)
      → always_mut calls f → CallableInScan steps calls it f s
  CallableInScan-always it f s always = record {
    at = λ xs t q x u came folds step y shows.
        ((still_callable xs (f, s) q folds always).at ((y, (x, tt)) ∷ [])).0;
  }

-- A closure that acts as a function of the state and the item.
pub scanned_values : {S A B F : Type 0}
    (calls : Mut F (MutBor S × (A × Unit {0})) (B × (MutBor S × Unit {0})))
    (f : F) (next : S → A → S) (out : S → A → B) (init last : S)
    (xs : List A) (ys : List B) (g : F)
    → ActsAsWithState calls f next out → CallsWithState calls f init xs ys g last
    → (ys ≡ scan next out init xs) × (g ≡ f)
scanned_values calls f next out init last [] [] g acts e = (refl, sym e.0)
scanned_values calls f next out init last [] (y ∷ ys) g acts e = absurd e
scanned_values calls f next out init last (x ∷ xs) [] g acts e = absurd e
scanned_values calls f next out init last (x ∷ xs) (y ∷ ys) g acts e =
    let one = acts init x y e.0 e.1 e.2 in
    let moved = subst (λ u. CallsWithState calls e.0 u xs ys g last) one.1 e.3 in
    let rest = subst (λ h. CallsWithState calls h (next init x) xs ys g last) one.0 moved in
    let more = scanned_values calls f next out (next init x) last xs ys g acts rest in
    (let a = one.2 in let b = more.0 in cc, more.1)

pub scan_prefix : {S A B : Type 0} (next : S → A → S) (out : S → A → B) (init : S) (whole : Bool)
    (us more : List A) → (whole ≡ true → more ≡ [])
    → IsPrefix whole (scan next out init (us ++ more)) (scan next out init us)
scan_prefix next out init whole [] more ended =
    (scan next out init more, refl, λ w. ap (scan next out init) (ended w))
scan_prefix next out init whole (u ∷ us) more ended =
    let f = scan_prefix next out (next init u) whole us more ended in
    (f.0, ap (λ l. out init u ∷ l) f.1, f.2)

module _ {A B : Type 0} (view : A → B) where
  pub scan_map : {S C : Type 0} (step : S → B → S) (out : S → B → C) (s : S) (us : List A)
      → scan (λ s x. step s (view x)) (λ s x. out s (view x)) s us ≡ scan step out s (map view us)
  scan_map step out s [] = refl
  scan_map step out s (u ∷ us) =
      ap (λ l. out s (view u) ∷ l) (scan_map step out (step s (view u)) us)

module _ {U V A S T : Type 0} {becomes : U → S → Type 0} {steps : S → Option A → S → Type 0}
    {made : V → T → Type 0} {u : U} {v : V} where
  module _ {B F : Type 0} {next : T → Option B → T → Type 0} {f : F} where
    module _ {R : Type 0}
        {calls : Mut F (MutBor R × (A × Unit {0})) (B × (MutBor R × Unit {0}))} {init : R}
        (gives : EachReading (Reads made next) v (IsScanned (Reads becomes steps) calls u init f))
      where
        pub scan_view : {C : Type 0} (view : A → C) (step : R → C → R) (out : R → C → B)
            (xs : List C)
            → ActsAsWithState calls f (λ s x. step s (view x)) (λ s x. out s (view x))
            → ReadsListThrough (Reads becomes steps) view u xs
            → ReadsList (Reads made next) v (scan step out init xs)
        scan_view view step out xs acts list whole ys read =
            let parts = gives whole ys read in
            let us = parts.items in
            let viewed = map view us in
            let prefix = list whole us parts.read in
            let values = scanned_values calls f (λ s x. step s (view x)) (λ s x. out s (view x))
            init
            parts.state_then us ys parts.f_then acts parts.called in
            subst (IsPrefix whole (scan step out init xs))
            (sym (values.0 ∙ scan_map view step out init us))
            (subst (λ l. IsPrefix whole (scan step out init l) (scan step out init viewed))
            (sym prefix.1) (scan_prefix step out init whole viewed prefix.0 prefix.2))

module _ {U V A S T : Type 0} {becomes : U → S → Type 0} {steps : S → Option A → S → Type 0}
    {made : V → T → Type 0} {u : U} {v : V} (view : View A) where
  module _ {B F : Type 0} {next : T → Option B → T → Type 0} {f : F} where
    pub scans_lists : {R : Type 0} {init : R}
        {calls : Mut F (MutBor R × (A × Unit {0})) (B × (MutBor R × Unit {0}))}
        → EachReading (Reads made next) v (IsScanned (Reads becomes steps) calls u init f)
        → EachView view (λ view. Lists becomes steps view.of) u (λ view xs.
        (step : R → view.Target → R) (out : R → view.Target → B)
        → ActsAsWithState calls f (λ s x. step s (view.of x)) (λ s x. out s (view.of x))
        → Naming (scan step out init xs) (YieldsItems made next v))
    scans_lists {R} {init} {calls} gives = each_view (λ view xs.
        (step : R → view.Target → R) (out : R → view.Target → B)
        → ActsAsWithState calls f (λ s x. step s (view.of x)) (λ s x. out s (view.of x))
        → Naming (scan step out init xs) (YieldsItems made next v)) view
        (λ view xs known step out acts. (
          refl,
          read_lists made next v (scan step out init xs)
              (scan_view gives view.of step out xs acts known),
        ))
