-- `map`: from a run of its iterator to the list that it yields. In each of these files `becomes`
-- and `steps` are those of the source, `made` and `next` those of the adapter, `meets` and `other`
-- those of a second source.
use Rattle.std.specs.Prelude.{◌≡◌, ℕ, List, [], ◌∷◌, ◌++◌, Option, Bool, map, true}
use Rattle.std.specs.Bool.{OnFalse}
use Rattle.std.proofs.Common.{refl, ap, ◌∙◌, sym, subst}
use Rattle.std.specs.Iterator.{DrainsIf, ActsAs}
use Rattle.std.specs.Iterator.Adapters.{map_source, map_callee, map_steps}
use Rattle.std.specs.declared.iter.Map.{Map}
use Rattle.std.specs.Fn.{Called, Mut}
use Rattle.std.specs.List.{flat_map, join_by}
use Rattle.std.proofs.lemmas.List.{map-append}
use Rattle.std.proofs.lemmas.Simd.{map-map}
use Rattle.ne_vec.specs.Lists.{IsPrefix, Lists, YieldsItems, EachList, EachView, Naming, View}
use Rattle.ne_iter.specs.Calls.{Calls}
use Rattle.ne_iter.specs.Sources.{ReadsList, ReadsListThrough, EachReading, Reads}
use Rattle.ne_vec.specs.RunLaws.{run_drains}
use Rattle.ne_iter.specs.Map.{IsMapped, ActsThrough, MapsTo, MapsToTexts, MapsThrough}
use Rattle.ne_iter.proofs.FunctionCalls.{function_values}
use Rattle.ne_iter.specs.LoopLaws.{whole_prefix}
use Rattle.ne_iter.proofs.SourceLists.{read_lists, each_view}

pub DrainsIf-map : {W S A B F : Type 0} (steps : S → Option A → S → Type 0)
    (g : Mut F (A × Unit {0}) B) (s : Map S F) (ys : List B)
    → DrainsIf (map_steps steps g) W s ys → (xs : List A) × (f : F)
    × DrainsIf steps W (map_source s) xs × Calls g (map_callee s) xs ys f
DrainsIf-map steps g s [] (t, e, fin) = (
  [],
  map_callee s,
  (map_source t, cc, λ w. (map_source (fin w).0, (fin w).1.0)),
  refl,
)
DrainsIf-map steps g s (y ∷ ys) (t, (j, st, rest), fin) =
    let ih = DrainsIf-map steps g j ys (t, rest, fin) in
    (st.0 ∷ ih.0, ih.1, (ih.2.0, (map_source j, st.1, ih.2.1), ih.2.2), (map_callee j, st.2, ih.3))

pub map_prefix : {A B : Type 0} (h : A → B) (whole : Bool) (xs us : List A)
    → IsPrefix whole xs us → IsPrefix whole (map h xs) (map h us)
map_prefix h whole xs us f = (
  map h f.0,
  ap (map h) f.1 ∙ map-append h us f.0,
  λ w. ap (map h) (f.2 w),
)

module _ {U V A S T : Type 0} {becomes : U → S → Type 0} {steps : S → Option A → S → Type 0}
    {made : V → T → Type 0} {u : U} {v : V} where
  module _ {B F : Type 0} {next : T → Option B → T → Type 0} {calls : Mut F (A × Unit {0}) B}
      {f : F}
      (gives : EachReading (Reads made next) v (IsMapped (Reads becomes steps) calls u f)) where
    pub map_view : {C : Type 0} (view : A → C) (h : C → B) (xs : List C)
        → ActsAs calls f (λ x. h (view x)) → ReadsListThrough (Reads becomes steps) view u xs
        → ReadsList (Reads made next) v (map h xs)
    map_view view h xs acts list whole ys read =
        let behind = gives whole ys read in
        let us = behind.items in
        let values = function_values calls f (λ x. h (view x)) us ys behind.f_then acts
        behind.called in
        subst (IsPrefix whole (map h xs)) (map-map h view us ∙ sym values.0)
        (map_prefix h whole xs (map view us) (list whole us behind.read))

module _ {U V A S T : Type 0} {becomes : U → S → Type 0} {steps : S → Option A → S → Type 0}
    {made : V → T → Type 0} {u : U} {v : V} (view : View A) where
  module _ {B F : Type 0} {next : T → Option B → T → Type 0} {f : F} where
    pub maps_lists : {calls : Mut F (A × Unit {0}) B}
        → EachReading (Reads made next) v (IsMapped (Reads becomes steps) calls u f)
        → EachView view (λ view. Lists becomes steps view.of) u (λ view xs.
        (h : view.Target → B) → ActsAs calls f (λ x. h (view.of x))
        → Naming (map h xs) (YieldsItems made next v))
    maps_lists {calls} gives = each_view (λ view xs. (h : view.Target → B)
        → ActsAs calls f (λ x. h (view.of x)) → Naming (map h xs) (YieldsItems made next v)) view
        (λ view xs known h acts. (
          refl,
          read_lists made next v (map h xs) (map_view gives view.of h xs acts known),
        ))

-- The values returned, through `out`, are those of h.
pub values_through : {F A B W : Type 0} (calls : Mut F (A × Unit {0}) B) (f : F) (out : B → W)
    (h : A → W) (xs : List A) (ys : List B) (p g : F) → ActsThrough calls f out h → p ≡ f
    → Calls calls p xs ys g → map out ys ≡ map h xs
values_through calls f out h [] [] p g acts same e = refl
values_through calls f out h [] (y ∷ ys) p g acts same e = absurd e
values_through calls f out h (x ∷ xs) [] p g acts same e = absurd e
values_through calls f out h (x ∷ xs) (y ∷ ys) p g acts same (q, call, rest) =
    let one = acts x y q (subst (λ k. Called calls k (x, tt) y q) same call) in
    let more = values_through calls f out h xs ys q g acts one.0 rest in
    let a = one.1 in cc

-- Lists with the same values at the same places give the same texts, one after another.
spread_alike : {A B : Type 0} (before : List ℕ → List ℕ) (f : A → List ℕ) (g : B → List ℕ)
    (xs : List A) (ys : List B) → map f xs ≡ map g ys
    → flat_map (λ x. before (f x)) xs ≡ flat_map (λ y. before (g y)) ys
spread_alike before f g [] [] e = refl
spread_alike before f g [] (y ∷ ys) e = cc
spread_alike before f g (x ∷ xs) [] e = cc
spread_alike before f g (x ∷ xs) (y ∷ ys) e =
    let same : f x ≡ g y = cc in
    let rest : map f xs ≡ map g ys = cc in
    let more = spread_alike before f g xs ys rest in
    cc

joined_alike : {A B : Type 0} (f : A → List ℕ) (g : B → List ℕ) (separator : List ℕ) (xs : List A)
    (ys : List B) → map f xs ≡ map g ys → join_by f separator xs ≡ join_by g separator ys
joined_alike f g separator [] [] e = refl
joined_alike f g separator [] (y ∷ ys) e = cc
joined_alike f g separator (x ∷ xs) [] e = cc
joined_alike f g separator (x ∷ xs) (y ∷ ys) e =
    let same : f x ≡ g y = cc in
    let rest : map f xs ≡ map g ys = cc in
    let more = spread_alike (λ l. separator ++ l) f g xs ys rest in
    cc

module _ {U V A S T B F : Type 0} {becomes : U → S → Type 0} {steps : S → Option A → S → Type 0}
    {made : V → T → Type 0} {u : U} {v : V} {next : T → Option B → T → Type 0} {f : F}
    {calls : Mut F (A × Unit {0}) B}
    (gives : EachReading (Reads made next) v (IsMapped (Reads becomes steps) calls u f)) where
  map_to : (W : Type 0) (view : View A) (xs : List view.Target)
      → ReadsListThrough (Reads becomes steps) view.of u xs → MapsTo W calls f made next v view xs
  map_to W view xs known it is_made p seen from h = (
    refl,
    λ out whole acts.
        let behind = gives true p.items (subst (λ w. Reads made next w v p.items) whole
        (record { it = it; made = is_made; given = run_drains next p it from })) in
        let us = behind.items in
        values_through calls f out (λ x. h (view.of x)) us p.items f behind.f_then acts refl
        behind.called ∙ sym (map-map h view.of us)
        ∙ ap (map h) (whole_prefix xs (map view.of us) (known true us behind.read)),
  )

  map_to_texts : (view : View A) (xs : List view.Target)
      → ReadsListThrough (Reads becomes steps) view.of u xs → MapsToTexts calls f made next v view
      xs
  map_to_texts view xs known it is_made p seen from =
      let values = map_to (List ℕ) view xs known it is_made p seen from in (
        λ h. (
          refl,
          λ out whole acts. spread_alike (λ l. l) out h p.items xs
              ((values h).1 out whole acts),
        ),
        λ h separator. (
          refl,
          λ out whole acts. joined_alike out h separator p.items xs
              ((values h).1 out whole acts),
        ),
      )

  pub maps_through : (view : View A) → OnFalse view.is_itself
      (EachList (Lists becomes steps view.of) u (MapsThrough calls f made next v view))
  maps_through view = (each_view (λ view xs. MapsThrough calls f made next v view xs) view
      (λ view xs known. (
        map_to ℕ view xs known,
        map_to (List ℕ) view xs known,
        map_to_texts view xs known,
      ))).1
