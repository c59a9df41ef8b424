-- `flat_map`: from a run of its iterator to the list that it yields.
use Rattle.std.proofs.Common.{refl, sym, subst, ap, ◌∙◌}
use Rattle.std.specs.Prelude.{◌≡◌, Bool, List, [], ◌∷◌, Option, map}
use Rattle.std.proofs.lemmas.Bool.{OnFalse_from}
use Rattle.std.specs.Fn.{Called, Mut}
use Rattle.std.specs.List.{AllZip, flat_map}
use Rattle.std.proofs.iter.runs.Sources.{lists}
use Rattle.ne_vec.specs.Lists.{IsPrefix, Lists, YieldsItems, YieldsThrough, View, itself}
use Rattle.ne_vec.specs.ListLaws.{triggered}
use Rattle.ne_iter.specs.Calls.{Calls}
use Rattle.ne_iter.specs.Sources.{ReadsList, ReadsListThrough, EachReading, Reads, SameLists}
use Rattle.ne_iter.specs.FlatMap.{IsFlatMapped, ReturnsLists, SpreadsLists, SpreadsThrough}
use Rattle.ne_iter.specs.FlatMap.{SpreadsViews}
use Rattle.ne_iter.specs.Flatten.{ReadsEach}
use Rattle.ne_iter.specs.SourceLists.{BecomesList}
use Rattle.ne_iter.proofs.Flatten.{joined_prefixes}
use Rattle.ne_iter.proofs.Divided.{joined_mapped}
use Rattle.ne_iter.specs.LoopLaws.{reads_through}
use Rattle.ne_iter.proofs.SourceLists.{read_lists}
use Rattle.ne_iter.specs.LoopLaws.{lists_read, becomes_read}
use Rattle.ne_iter.proofs.SourceLists.{through_reads, becomes_read_through}

-- The sources that f returns yield the lists that belong to the items, one after another.
lists_returned : {A W B F : Type 0} (reads : Bool → W → List B → Type 0)
    (calls : Mut F (A × Unit {0}) W) (f : F) (inner : A → List B)
    → ReturnsLists calls f (ReadsList reads) inner → (xs : List A) (us : List W) (p g : F)
    → p ≡ f → Calls calls p xs us g → AllZip (λ x u. ReadsList reads u (inner x)) xs us
lists_returned reads calls f inner answers [] [] p g same run = tt
lists_returned reads calls f inner answers [] (u ∷ us) p g same run = absurd run
lists_returned reads calls f inner answers (x ∷ xs) [] p g same run = absurd run
lists_returned reads calls f inner answers (x ∷ xs) (u ∷ us) p g same (h, call, run) =
    let one = answers x u h (subst (λ q. Called calls q (x, tt) u h) same call) in
    (one.1, lists_returned reads calls f inner answers xs us h g one.0 run)

module _ {U W V S T A B : Type 0} {becomes : U → S → Type 0} {steps : S → Option A → S → Type 0}
    {reads : Bool → W → List B → Type 0} {made : V → T → Type 0} {next : T → Option B → T → Type 0}
    {u : U} {v : V} where
  pub flat_map_list : {F : Type 0} {calls : Mut F (A × Unit {0}) W} {f : F}
      → EachReading (Reads made next) v (IsFlatMapped (Reads becomes steps) reads calls u f)
      → (inner : A → List B) (xs : List A) → ReturnsLists calls f (ReadsList reads) inner
      → ReadsList (Reads becomes steps) u xs → ReadsList (Reads made next) v (flat_map inner xs)
  flat_map_list {calls} {f} gives inner xs answers list whole zs read =
      let parts = gives whole zs read in
      let beside = lists_returned reads calls f inner answers parts.items parts.sources f
      parts.f_then refl parts.called in
      subst (IsPrefix whole (flat_map inner xs)) (sym parts.is)
      (joined_prefixes reads inner whole xs parts.items parts.sources parts.lists
      (list whole parts.items parts.read) beside parts.read_each)

-- The lists of inner sources, one after another.
module _ {U W V S R T B X Y : Type 0} {becomes : U → S → Type 0} {meets : W → R → Type 0}
    {other : R → Option B → R → Type 0} {made : V → T → Type 0} {next : T → Option B → T → Type 0}
    {makes : W → X → Type 0} {made' : X → Y → Type 0} {next' : Y → Option B → Y → Type 0}
    {u : U} {v : V} (same : SameLists meets other makes made' next') where
  pub spreads_lists : {A F : Type 0} {steps : S → Option A → S → Type 0}
      {calls : Mut F (A × Unit {0}) W} {f : F}
      → ((inner : A → List B) (xs : List A)
      → ReturnsLists calls f (ReadsList (Reads meets other)) inner
      → ReadsList (Reads becomes steps) u xs → ReadsList (Reads made next) v (flat_map inner xs))
      → SpreadsLists calls f (Lists becomes steps (λ x. x)) (BecomesList makes made' next' itself)
      (YieldsItems made next) u v
  spreads_lists {steps = steps} law xs lists = (
    triggered u xs,
    λ inner. (
      refl,
      λ answers. read_lists made next v (flat_map inner xs)
          (law inner xs (λ x w g call.
          let a = answers x w g call in
          (a.0, becomes_read meets other makes made' next' same w (inner x) a.1))
          (lists_read becomes steps u xs lists)),
    ),
  )

-- w may yield items that are ds through `inner`.
abbrev ReadsAs : {W B D : Type 0} → (Bool → W → List B → Type 0) → (B → D) → Bool → W → List D
    → Type 0
ReadsAs {B = B} reads inner whole w ds = (ys : List B) × reads whole w ys × (ds ≡ map inner ys)

reads_as_each : {W B D : Type 0} (reads : Bool → W → List B → Type 0) (inner : B → D)
    (whole : Bool) (us : List W) (yss : List (List B)) → ReadsEach reads whole us yss
    → ReadsEach (ReadsAs reads inner) whole us (map (map inner) yss)
reads_as_each reads inner whole [] [] h = tt
reads_as_each reads inner whole [] (ys ∷ yss) h = absurd h
reads_as_each reads inner whole (u ∷ us) [] h = absurd h
reads_as_each reads inner whole (u ∷ us) (ys ∷ yss) h = (
  (ys, h.0, refl),
  reads_as_each reads inner whole us yss h.1,
)

-- The sources that f returned yield, through `inner`, the lists that belong to the items.
through_returned : {A C W B D F : Type 0} (reads : Bool → W → List B → Type 0) (inner : B → D)
    (view : A → C) (calls : Mut F (A × Unit {0}) W) (f : F) (h : C → List D)
    → ReturnsLists calls f (ReadsListThrough reads inner) (λ x. h (view x)) → (xs : List A)
    (us : List W) (p g : F) → p ≡ f → Calls calls p xs us g
    → AllZip (λ x u. ReadsList (ReadsAs reads inner) u (h x)) (map view xs) us
through_returned reads inner view calls f h answers [] [] p g same run = tt
through_returned reads inner view calls f h answers [] (u ∷ us) p g same run = absurd run
through_returned reads inner view calls f h answers (x ∷ xs) [] p g same run = absurd run
through_returned reads inner view calls f h answers (x ∷ xs) (u ∷ us) p g same (k, call, run) =
    let one = answers x u k (subst (λ q. Called calls q (x, tt) u k) same call) in (
      (λ whole ds r. subst (IsPrefix whole (h (view x))) (sym r.2) (one.1 whole r.0 r.1)),
      through_returned reads inner view calls f h answers xs us k g one.0 run,
    )

module _ {U W V S T A B : Type 0} {becomes : U → S → Type 0} {steps : S → Option A → S → Type 0}
    {reads : Bool → W → List B → Type 0} {made : V → T → Type 0} {next : T → Option B → T → Type 0}
    {u : U} {v : V} where
  pub flat_map_through : {F C D : Type 0} {calls : Mut F (A × Unit {0}) W} {f : F}
      → EachReading (Reads made next) v (IsFlatMapped (Reads becomes steps) reads calls u f)
      → (view : A → C) (inner : B → D) (h : C → List D) (xs : List C)
      → ReturnsLists calls f (ReadsListThrough reads inner) (λ x. h (view x))
      → ReadsListThrough (Reads becomes steps) view u xs
      → ReadsListThrough (Reads made next) inner v (flat_map h xs)
  flat_map_through {calls} {f} gives view inner h xs answers list whole zs read =
      let parts = gives whole zs read in
      let beside = through_returned reads inner view calls f h answers parts.items parts.sources f
      parts.f_then refl parts.called in
      subst (IsPrefix whole (flat_map h xs))
      (joined_mapped inner parts.lists ∙ ap (map inner) (sym parts.is))
      (joined_prefixes (ReadsAs reads inner) h whole xs (map view parts.items) parts.sources
      (map (map inner) parts.lists) (list whole parts.items parts.read) beside
      (reads_as_each reads inner whole parts.sources parts.lists parts.read_each))

-- The lists of inner sources, one after another, through views.
module _ {U W V S R T A B X Y F : Type 0} {becomes : U → S → Type 0}
    {steps : S → Option A → S → Type 0} {meets : W → R → Type 0}
    {other : R → Option B → R → Type 0} {made : V → T → Type 0} {next : T → Option B → T → Type 0}
    {makes : W → X → Type 0} {made' : X → Y → Type 0} {next' : Y → Option B → Y → Type 0}
    {u : U} {v : V} {calls : Mut F (A × Unit {0}) W} {f : F}
    (same : SameLists meets other makes made' next')
    (gives : EachReading (Reads made next) v (IsFlatMapped (Reads becomes steps)
    (Reads meets other) calls u f)) where
  spreads_through : (view : View A) (inner : View B)
      → SpreadsThrough calls f view inner (λ view. Lists becomes steps view.of)
      (BecomesList makes made' next') (λ inner. YieldsThrough made next inner.of) u v
  spreads_through view inner xs lists = (
    triggered u xs,
    λ h. (
      refl,
      λ answers. through_reads made next v inner.of (flat_map h xs)
          (flat_map_through gives view.of inner.of h xs (λ x w g call.
          let a = answers x w g call in (
            a.0,
            becomes_read_through meets other makes made' next' same w inner (h (view.of x)) a.1,
          )) (reads_through becomes steps u view.of xs lists)),
    ),
  )

  pub spreads_views : (view : View A) (inner : View B)
      → SpreadsViews calls f view inner (λ view. Lists becomes steps view.of)
      (BecomesList makes made' next') (λ inner. YieldsThrough made next inner.of) u v
  spreads_views view inner = (
    OnFalse_from _ _ (λ _. spreads_through view itself),
    OnFalse_from _ _ (λ _. spreads_through itself inner),
    OnFalse_from _ _ (λ _. spreads_through view inner),
  )
