-- `zip`: from a run of its iterator to the list that it yields.
use Rattle.std.proofs.Common.{rules, arith, ap, inl, inr, ◌⊎◌, refl, ap₂, ◌∙◌, sym, subst}
use Rattle.std.specs.Prelude.{◌≡◌, List, [], ◌∷◌, length, Option, None, Bool, true, false, ◌||◌}
use Rattle.std.specs.Prelude.{◌&&◌, IsTrue, ◌++◌, map}
use Rattle.std.specs.List.{zip}
use Rattle.std.specs.Iterator.{DrainsIf}
use Rattle.std.specs.Iterator.Adapters.{zip_first, zip_second, zip_steps}
use Rattle.std.specs.declared.iter.Zip.{Zip}
use Rattle.std.proofs.lemmas.Bool.{OnFalse_from}
use Rattle.std.proofs.lemmas.List.{length-map}
use Rattle.ne_vec.specs.Lists.{IsPrefix, Lists, YieldsItems, YieldsThrough, View, in_pairs, itself}
use Rattle.ne_vec.specs.ListLaws.{triggered}
use Rattle.ne_iter.specs.Sources.{ReadsListThrough, EachReading, Reads, SameLists}
use Rattle.ne_iter.specs.Zip.{IsZipped, PairsOf, ZipsLists}
use Rattle.ne_iter.specs.SourceLists.{BecomesList}
use Rattle.ne_iter.specs.LoopLaws.{reads_through}
use Rattle.ne_iter.proofs.SourceLists.{read_lists, through_reads, as_items}
use Rattle.ne_iter.proofs.SourceLists.{becomes_read_through}

-- If a conjunction of two tests is true, both are true.
pub both_true : (a b : Bool) → (a && b) ≡ true → (a ≡ true) × (b ≡ true)
both_true true b e = (refl, e)
both_true false b e = let e = e in search rules

module _ {S T A B : Type 0} (steps : S → Option A → S → Type 0) (others : T → Option B → T → Type 0)
  where
    abbrev Sides : Bool → Zip S T → List (A × B) → Type 0
    Sides whole z ps = (xs : List A) × (ys : List B) × (a : Bool) × (b : Bool)
        × DrainsIf steps (a ≡ true) (zip_first z) xs × DrainsIf others (b ≡ true) (zip_second z) ys
        × (ps ≡ zip xs ys) × (length xs ≡ length ys) × (whole ≡ true → IsTrue (a || b))

    zip_ends : (z t : Zip S T) → z ≡ t → ((u : S) × steps (zip_first t) None u)
        ⊎ ((u : T) × others (zip_second t) None u) → Sides true z []
    zip_ends z t e (inl h) = (
      [],
      [],
      true,
      false,
      (zip_first t, ap zip_first e, λ _. h),
      (zip_second t, ap zip_second e, λ w. let w = w in search rules),
      refl,
      refl,
      λ _. refl,
    )
    zip_ends z t e (inr h) = (
      [],
      [],
      false,
      true,
      (zip_first t, ap zip_first e, λ w. let w = w in search rules),
      (zip_second t, ap zip_second e, λ _. h),
      refl,
      refl,
      λ _. refl,
    )

    pub DrainsIf-zip : (whole : Bool) (z : Zip S T) (ps : List (A × B))
        → DrainsIf (zip_steps steps others) (whole ≡ true) z ps → Sides whole z ps
    DrainsIf-zip true z [] (t, e, fin) = zip_ends z t e (fin refl).1
    DrainsIf-zip false z [] (t, e, fin) = (
      [],
      [],
      false,
      false,
      (zip_first z, refl, λ w. let w = w in search rules),
      (zip_second z, refl, λ w. let w = w in search rules),
      refl,
      refl,
      λ w. let w = w in
          search rules,
    )
    DrainsIf-zip whole z ((x, y) ∷ ps) (t, (j, st, rest), fin) =
        let p = DrainsIf-zip whole j ps (t, rest, fin) in (
          x ∷ p.0,
          y ∷ p.1,
          p.2,
          p.3,
          (p.4.0, (zip_first j, st.0, p.4.1), p.4.2),
          (p.5.0, (zip_second j, st.1, p.5.1), p.5.2),
          (let e = p.6 in cc),
          (let e = p.7 in omega (arith, e)),
          p.8,
        )

zip_nil : {A B : Type 0} (xs : List A) → zip {X = B} xs [] ≡ []
zip_nil [] = refl
zip_nil (x ∷ xs) = refl

zip_append : {A B : Type 0} (us : List A) (vs : List B) (more : List A) (rest : List B)
    → length us ≡ length vs → zip (us ++ more) (vs ++ rest) ≡ zip us vs ++ zip more rest
zip_append [] [] more rest e = refl
zip_append [] (v ∷ vs) more rest e = absurd (omega (arith, e))
zip_append (u ∷ us) [] more rest e = absurd (omega (arith, e))
zip_append (u ∷ us) (v ∷ vs) more rest e =
    ap (λ l. (u, v) ∷ l) (zip_append us vs more rest (omega (arith, e)))

zip_ended : {A B : Type 0} (a b : Bool) (more : List A) (rest : List B)
    → (a ≡ true → more ≡ []) → (b ≡ true → rest ≡ []) → (a || b) ≡ true → zip more rest ≡ []
zip_ended true b more rest f g w = ap (λ l. zip l rest) (f refl)
zip_ended false true more rest f g w = ap (zip more) (g refl) ∙ zip_nil more
zip_ended false false more rest f g w = let w = w in cc

pub zip_prefix : {A B : Type 0} (whole a b : Bool) (xs : List A) (ys : List B) (us : List A)
    (vs : List B) → length us ≡ length vs → (whole ≡ true → IsTrue (a || b))
    → IsPrefix a xs us → IsPrefix b ys vs → IsPrefix whole (zip xs ys) (zip us vs)
zip_prefix whole a b xs ys us vs same ended f g = (
  zip f.0 g.0,
  ap₂ zip f.1 g.1 ∙ zip_append us vs f.0 g.0 same,
  λ w. zip_ended a b f.0 g.0 f.2 g.2 (ended w),
)

module _ {A B : Type 0} (view : A → B) where
  pub zip_map : {C D : Type 0} (other : C → D) (us : List A) (vs : List C)
      → map (λ p. (view p.0, other p.1)) (zip us vs) ≡ zip (map view us) (map other vs)
  zip_map other [] vs = refl
  zip_map other (u ∷ us) [] = refl
  zip_map other (u ∷ us) (v ∷ vs) = ap (λ l. (view u, other v) ∷ l) (zip_map other us vs)

module _ {U W V S R T A : Type 0} {becomes : U → S → Type 0} {steps : S → Option A → S → Type 0}
    {meets : W → R → Type 0} {made : V → T → Type 0} {u : U} {w : W} {v : V} where
  module _ {B : Type 0} {other : R → Option B → R → Type 0} {next : T → Option (A × B) → T → Type 0}
      (gives : EachReading (Reads made next) v (IsZipped (Reads becomes steps) (Reads meets other) u
      w)) where
    pub zip_view : {C D : Type 0} (view : A → C) (other_view : B → D) (xs : List C) (ys : List D)
        → ReadsListThrough (Reads becomes steps) view u xs → ReadsListThrough (Reads meets other)
        other_view w ys
        → ReadsListThrough (Reads made next) (λ p. (view p.0, other_view p.1)) v (zip xs ys)
    zip_view view other_view xs ys first second whole ps read =
        let parts = gives whole ps read in
        let us = parts.items in
        let vs = parts.other_items in
        let as_many = length-map us view ∙ parts.as_many ∙ sym (length-map vs other_view) in
        let viewed = ap (map (λ p. (view p.0, other_view p.1))) parts.is
        ∙ zip_map view other_view us vs in
        subst (IsPrefix whole (zip xs ys)) (sym viewed)
        (zip_prefix whole parts.ended parts.other_ended xs ys (map view us) (map other_view vs)
        as_many parts.one_ended (first parts.ended us parts.read)
        (second parts.other_ended vs parts.read_other))

-- Two sources, side by side.
module _ {U W V S R T A B X Y : Type 0} {becomes : U → S → Type 0}
    {steps : S → Option A → S → Type 0} {meets : W → R → Type 0}
    {other : R → Option B → R → Type 0} {made : V → T → Type 0}
    {next : T → Option (A × B) → T → Type 0} {makes : W → X → Type 0} {made' : X → Y → Type 0}
    {next' : Y → Option B → Y → Type 0} {u : U} {w : W} {v : V}
    (same : SameLists meets other makes made' next')
    (gives : EachReading (Reads made next) v (IsZipped (Reads becomes steps) (Reads meets other) u
    w)) where
  pairs_of : (view : View A) (other_view : View B)
      (P : List (view.Target × other_view.Target) → Type 0)
      → ((ps : List (view.Target × other_view.Target))
      → ReadsListThrough (Reads made next) (in_pairs view other_view).of v ps → P ps)
      → PairsOf (Lists becomes steps view.of) (Lists meets other other_view.of)
      (BecomesList makes made' next' other_view) u w P
  pairs_of view other_view P law = (
    (λ xs first. (
      triggered u xs,
      λ ys second. (
        triggered w ys,
        both xs ys first (reads_through meets other w other_view.of ys second),
      ),
    )),
    λ xs ys. (
      refl,
      λ first second. both xs ys first
          (becomes_read_through meets other makes made' next' same w other_view ys second),
    ),
  )
    where
      both : (xs : List view.Target) (ys : List other_view.Target)
          → Lists becomes steps view.of u xs → ReadsListThrough (Reads meets other) other_view.of w
          ys
          → P (zip xs ys)
      both xs ys first second = law (zip xs ys) (zip_view gives view.of other_view.of xs ys
          (reads_through becomes steps u view.of xs first) second)

  pub zips_lists : (view : View A) (other_view : View B)
      → ZipsLists view other_view (λ view. Lists becomes steps view.of)
      (λ view. Lists meets other view.of) (BecomesList makes made' next') (YieldsItems made next)
      (λ view. YieldsThrough made next view.of) u w v
  zips_lists view other_view = (
    pairs_of itself itself (YieldsItems made next v)
        (λ ps known. read_lists made next v ps (as_items (Reads made next) v ps known)),
    OnFalse_from view.is_itself _ (λ _. viewed view itself),
    OnFalse_from other_view.is_itself _ (λ _. viewed itself other_view),
    OnFalse_from (view.is_itself || other_view.is_itself) _ (λ _. viewed view other_view),
  )
    where
      viewed : (view : View A) (other_view : View B)
          → PairsOf (Lists becomes steps view.of) (Lists meets other other_view.of)
          (BecomesList makes made' next' other_view) u w
          (YieldsThrough made next (in_pairs view other_view).of v)
      viewed view other_view = pairs_of view other_view
          (YieldsThrough made next (in_pairs view other_view).of v)
          (through_reads made next v (in_pairs view other_view).of)
