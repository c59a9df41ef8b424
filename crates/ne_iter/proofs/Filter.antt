-- `filter` and `filter_map`: from a run of the iterator to the list that it yields.
use Rattle.std.proofs.Common.{subst, sym, ap, ◌∙◌}
use Rattle.std.proofs.lemmas.List.{append-nil}
use Rattle.std.specs.Prelude.{◌≡◌, ℕ, List, [], ◌∷◌, ◌++◌, Option, Some, None, refl, Bool, true}
use Rattle.std.specs.Prelude.{false}
use Rattle.std.specs.Prelude.{MatchOption, IsSome, map, filter, filter_map}
use Rattle.std.specs.Borrow.{Bor}
use Rattle.std.specs.Fn.{Called, Mut}
use Rattle.std.specs.Iterator.{YieldsThen, DrainsIf, ActsAs, ActsAsAt}
use Rattle.std.specs.Iterator.Adapters.{filter_source, filter_callee, filter_steps}
use Rattle.std.specs.Iterator.Adapters.{filter_map_source, filter_map_callee, filter_map_steps}
use Rattle.std.specs.declared.iter.Filter.{Filter}
use Rattle.std.specs.declared.iter.FilterMap.{FilterMap}
use Rattle.std.proofs.lemmas.List.Elements.{filter-append, filter_map-append}
use Rattle.std.specs.List.{cons_option}
use Rattle.std.specs.Option.{option_map}
use Rattle.std.specs.Bool.{OnFalse}
use Rattle.ne_vec.specs.Lists.{EachList, IsPrefix, Lists, View}
use Rattle.ne_vec.specs.RunLaws.{run_drains}
use Rattle.ne_iter.specs.Sources.{Reads, EachReading, ReadsList, ReadsListThrough}
use Rattle.ne_iter.specs.Calls.{Calls, CallsEachAt, ReturnsEach, ReturnsEachAt}
use Rattle.ne_iter.specs.Filter.{FilterMapsTo, FilterMapsThrough, IsFiltered, IsFilterMapped}
use Rattle.ne_iter.specs.Keys.{items_of}
use Rattle.ne_iter.specs.LoopLaws.{Yields-append, whole_prefix}
use Rattle.ne_iter.proofs.FunctionCalls.{function_values, values_at}
use Rattle.ne_iter.proofs.Map.{values_through}
use Rattle.ne_iter.proofs.SourceLists.{each_view}

-- Each item of xs, paired with b.
abbrev tested : {A B : Type 0} → B → List A → List (A × B)
tested b xs = map (λ x. (x, b)) xs

answered_items : {A B : Type 0} (b : B) (xs : List A) (ps : List (A × B))
    → map (λ p. p.0) (tested b xs ++ ps) ≡ xs ++ map (λ p. p.0) ps
answered_items b [] ps = refl
answered_items b (x ∷ xs) ps = ap (λ l. x ∷ l) (answered_items b xs ps)

none_kept : {A : Type 0} (xs : List A) (ps : List (A × Bool))
    → filter (λ p. p.1) (tested false xs ++ ps) ≡ filter (λ p. p.1) ps
none_kept [] ps = refl
none_kept (x ∷ xs) ps = none_kept xs ps

module _ {S A F : Type 0} (steps : S → Option A → S → Type 0)
    (calls : Mut F (Bor A × Unit {0}) Bool) where
  calls_made : (b : Bool) (xs : List A) (ps : List (A × Bool)) (f g h : F)
      → ReturnsEachAt calls b f xs g
      → CallsEachAt calls g ps h → CallsEachAt calls f (tested b xs ++ ps) h
  calls_made b [] ps f g h a c = subst (λ q. CallsEachAt calls q ps h) (sym a) c
  calls_made b (x ∷ xs) ps f g h a c = (a.0, a.1, calls_made b xs ps a.0 g h a.2 c)

  abbrev Sifted : Bool → Filter S F → List A → Type 0
  Sifted whole s xs = (ps : List (A × Bool)) × (g : F)
      × DrainsIf steps (whole ≡ true) (filter_source s) (map (λ p. p.0) ps)
      × CallsEachAt calls (filter_callee s) ps g × (xs ≡ map (λ p. p.0) (filter (λ p. p.1) ps))

  -- After items zs that failed.
  sifted_behind : (whole : Bool) (s : Filter S F) (xs zs : List A) (ps : List (A × Bool)) (f g : F)
      → DrainsIf steps (whole ≡ true) (filter_source s) (zs ++ map (λ p. p.0) ps)
      → ReturnsEachAt calls false (filter_callee s) zs f → CallsEachAt calls f ps g
      → xs ≡ map (λ p. p.0) (filter (λ p. p.1) ps) → Sifted whole s xs
  sifted_behind whole s xs zs ps f g k failed c e = (
    tested false zs ++ ps,
    g,
    subst (DrainsIf steps (whole ≡ true) (filter_source s)) (sym (answered_items false zs ps)) k,
    calls_made false zs ps (filter_callee s) f g failed c,
    e ∙ ap (map (λ p. p.0)) (sym (none_kept zs ps)),
  )

  DrainsIf-filter : (whole : Bool) (s : Filter S F) (xs : List A)
      → DrainsIf (filter_steps steps calls) (whole ≡ true) s xs → Sifted whole s xs
  DrainsIf-filter false s [] k = (
    [],
    filter_callee s,
    (filter_source s, refl, λ e. cc e),
    refl,
    refl,
  )
  DrainsIf-filter true s [] k =
      let u = (k.2 refl).0 in
      let h = subst (λ j. filter_steps steps calls j None u) (sym k.1) (k.2 refl).1 in
      sifted_behind true s [] h.0 [] h.1 h.1 (subst (DrainsIf steps (true ≡ true) (filter_source s))
      (sym (append-nil h.0)) (h.2.0, h.2.1, λ _. (filter_source u, h.2.2))) h.3 refl refl
  DrainsIf-filter whole s (x ∷ xs) k =
      let h = k.1.1 in
      let m = DrainsIf-filter whole k.1.0 xs (k.0, k.1.2, k.2) in
      let items = x ∷ map (λ (p : A × Bool). p.0) m.0 in
      sifted_behind whole s (x ∷ xs) h.0 ((x, true) ∷ m.0) h.1 m.1 (
        m.2.0,
        Yields-append steps h.0 items (filter_source s) h.2.0 m.2.0 h.2.1
            (filter_source k.1.0, h.2.2, m.2.1),
        m.2.2,
      )
      h.3 (filter_callee k.1.0, h.4, m.3) (ap (λ l. x ∷ l) m.4)

  pub IsFiltered-from_steps : {U : Type 0} (becomes : U → S → Type 0) (source : U) (f : F)
      (result : Filter S F) → becomes source (filter_source result) → filter_callee result ≡ f
      → EachReading (Reads (λ s r. r ≡ s) (filter_steps steps calls)) result
      (IsFiltered (Reads becomes steps) calls source f)
  IsFiltered-from_steps becomes source f result made callee whole xs h =
      let p = DrainsIf-filter whole result xs
      (subst (λ q. DrainsIf (filter_steps steps calls) (whole ≡ true) q xs) h.made h.given) in
      record {
        tested = p.0;
        f_then = p.1;
        read = record { it = filter_source result; made = made; given = p.2 };
        called = subst (λ q. CallsEachAt calls q p.0 p.1) callee p.3;
        is = p.4;
      }

module _ {S A B F : Type 0} (steps : S → Option A → S → Type 0)
    (calls : Mut F (A × Unit {0}) (Option B)) where
  none_values : (xs : List A) (os : List (Option B))
      → filter_map (λ o. o) (map (λ _. None) xs ++ os) ≡ filter_map (λ o. o) os
  none_values [] os = refl
  none_values (x ∷ xs) os = none_values xs os

  refused : (zs xs : List A) (os : List (Option B)) (f g h : F) → ReturnsEach calls None f zs g
      → Calls calls g xs os h → Calls calls f (zs ++ xs) (map (λ _. None) zs ++ os) h
  refused [] xs os f g h a c = subst (λ q. Calls calls q xs os h) (sym a) c
  refused (z ∷ zs) xs os f g h a c = (a.0, a.1, refused zs xs os a.0 g h a.2 c)

  abbrev Picked : Bool → FilterMap S F → List B → Type 0
  Picked whole s ys = (xs : List A) × (os : List (Option B)) × (g : F)
      × DrainsIf steps (whole ≡ true) (filter_map_source s) xs
      × Calls calls (filter_map_callee s) xs os g × (ys ≡ filter_map (λ o. o) os)

  -- The facts about a call that skipped items and then took o.
  abbrev Drew : F → Option B → FilterMap S F → Option A → Type 0
  Drew f r t o = MatchOption o ((r ≡ None) × (filter_map_callee t ≡ f))
      (λ x. Called calls f (x, tt) r (filter_map_callee t) × IsSome r)

  picked_end : (s u : FilterMap S F) (zs : List A) (f : F) (o : Option A)
      → YieldsThen steps (filter_map_source s) zs o (filter_map_source u)
      → ReturnsEach calls None (filter_map_callee s) zs f → Drew f None u o → Picked true s []
  picked_end s u zs f None run a e = (
    zs ++ [],
    map (λ _. None) zs ++ [],
    f,
    subst (DrainsIf steps (true ≡ true) (filter_map_source s)) (sym (append-nil zs))
        (run.0, run.1, λ _. (filter_map_source u, run.2)),
    refused zs [] [] (filter_map_callee s) f f a refl,
    sym (none_values zs []),
  )
  picked_end s u zs f (Some x) run a e = cc e.1

  picked_one : (whole : Bool) (s t : FilterMap S F) (y : B) (ys : List B) (zs : List A) (f : F)
      (o : Option A) → YieldsThen steps (filter_map_source s) zs o (filter_map_source t)
      → ReturnsEach calls None (filter_map_callee s) zs f → Drew f (Some y) t o → Picked whole t ys
      → Picked whole s (y ∷ ys)
  picked_one whole s t y ys zs f None run a e m = cc e.0
  picked_one whole s t y ys zs f (Some x) run a e m = (
    zs ++ x ∷ m.0,
    map (λ _. None) zs ++ Some y ∷ m.1,
    m.2,
    (
      m.3.0,
      Yields-append steps zs (x ∷ m.0) (filter_map_source s) run.0 m.3.0 run.1
          (filter_map_source t, run.2, m.3.1),
      m.3.2,
    ),
    refused zs (x ∷ m.0) (Some y ∷ m.1) (filter_map_callee s) f m.2 a
        (filter_map_callee t, e.0, m.4),
    ap (λ l. y ∷ l) m.5 ∙ sym (none_values zs (Some y ∷ m.1)),
  )

  DrainsIf-filter_map : (whole : Bool) (s : FilterMap S F) (ys : List B)
      → DrainsIf (filter_map_steps steps calls) (whole ≡ true) s ys → Picked whole s ys
  DrainsIf-filter_map false s [] k = (
    [],
    [],
    filter_map_callee s,
    (filter_map_source s, refl, λ e. cc e),
    refl,
    refl,
  )
  DrainsIf-filter_map true s [] k =
      let u = (k.2 refl).0 in
      let h = subst (λ j. filter_map_steps steps calls j None u) (sym k.1) (k.2 refl).1 in
      picked_end s u h.0 h.2 h.1 h.3 h.4 h.5
  DrainsIf-filter_map whole s (y ∷ ys) k =
      let h = k.1.1 in
      picked_one whole s k.1.0 y ys h.0 h.2 h.1 h.3 h.4 h.5
      (DrainsIf-filter_map whole k.1.0 ys (k.0, k.1.2, k.2))

  pub IsFilterMapped-from_steps : {U : Type 0} (becomes : U → S → Type 0) (source : U) (f : F)
      (result : FilterMap S F) → becomes source (filter_map_source result)
      → filter_map_callee result ≡ f
      → EachReading (Reads (λ s r. r ≡ s) (filter_map_steps steps calls)) result
      (IsFilterMapped (Reads becomes steps) calls source f)
  IsFilterMapped-from_steps becomes source f result made callee whole ys h =
      let p = DrainsIf-filter_map whole result ys
      (subst (λ q. DrainsIf (filter_map_steps steps calls) (whole ≡ true) q ys) h.made h.given)
      in record {
        items = p.0;
        results = p.1;
        f_then = p.2;
        read = record { it = filter_map_source result; made = made; given = p.3 };
        called = subst (λ q. Calls calls q p.0 p.1 p.2) callee p.4;
        is = p.5;
      }

pub filter_prefix : {A : Type 0} (test : A → Bool) (whole : Bool) (xs us : List A)
    → IsPrefix whole xs us → IsPrefix whole (filter test xs) (filter test us)
filter_prefix test whole xs us f = (
  filter test f.0,
  ap (filter test) f.1 ∙ filter-append test us f.0,
  λ w. ap (filter test) (f.2 w),
)

pub filter_map_prefix : {A B : Type 0} (h : A → Option B) (whole : Bool) (xs us : List A)
    → IsPrefix whole xs us → IsPrefix whole (filter_map h xs) (filter_map h us)
filter_map_prefix h whole xs us f = (
  filter_map h f.0,
  ap (filter_map h) f.1 ∙ filter_map-append h us f.0,
  λ w. ap (filter_map h) (f.2 w),
)

module _ {A : Type 0} (test : A → Bool) where
  abbrev pub Kept : List A → Type 0
  Kept us =
      let ps : List (A × Bool) = map (λ x. (x, test x)) us in
      map (λ (p : A × Bool). p.0) (filter (λ (p : A × Bool). p.1) ps) ≡ filter test us

  kept : (u : A) (us : List A) (b : Bool) → test u ≡ b → Kept us → Kept (u ∷ us)
  kept u us true e more = rw e (ap (λ l. u ∷ l) more)
  kept u us false e more = rw e more

  -- The items paired with true.
  pub filter_answered : (us : List A) → Kept us
  filter_answered [] = refl
  filter_answered (u ∷ us) = kept u us (test u) refl (filter_answered us)

pub filter_map_answered : {A B : Type 0} (h : A → Option B) (us : List A)
    → filter_map (λ o. o) (map h us) ≡ filter_map h us
filter_map_answered h [] = refl
filter_map_answered h (u ∷ us) = ap (cons_option (h u)) (filter_map_answered h us)

-- The values in `Some`, through `out`.
values_kept : {A B : Type 0} (out : A → B) (os : List (Option A))
    → map out (filter_map (λ o. o) os) ≡ filter_map (λ o. o) (map (option_map out) os)
values_kept out [] = refl
values_kept out (None ∷ os) = values_kept out os
values_kept out (Some y ∷ os) = ap (λ l. out y ∷ l) (values_kept out os)

module _ {A B : Type 0} (view : A → B) where
  kept_map : (test : B → Bool) (u : A) (us : List A) (b : Bool) → test (view u) ≡ b
      → map view (filter (λ x. test (view x)) us) ≡ filter test (map view us)
      → map view (filter (λ x. test (view x)) (u ∷ us)) ≡ filter test (map view (u ∷ us))
  kept_map test u us true e more = rw e (ap (λ l. view u ∷ l) more)
  kept_map test u us false e more = rw e more

  pub map_of_filter : (test : B → Bool) (us : List A)
      → map view (filter (λ x. test (view x)) us) ≡ filter test (map view us)
  map_of_filter test [] = refl
  map_of_filter test (u ∷ us) =
      kept_map test u us (test (view u)) refl (map_of_filter test us)

  pub filter_map_of_map : {C : Type 0} (h : B → Option C) (us : List A)
      → filter_map (λ x. h (view x)) us ≡ filter_map h (map view us)
  filter_map_of_map h [] = refl
  filter_map_of_map h (u ∷ us) = ap (cons_option (h (view u))) (filter_map_of_map h us)

module _ {U V A S T : Type 0} {becomes : U → S → Type 0} {steps : S → Option A → S → Type 0}
    {made : V → T → Type 0} {u : U} {v : V} where
  module _ {next : T → Option A → T → Type 0} where
    module _ {F : Type 0} {calls : Mut F (Bor A × Unit {0}) Bool} {f : F} {B : Type 0}
        (view : A → B) (test : B → Bool) (xs : List B)
        (acts : ActsAsAt calls f (λ x. test (view x)))
        (list : ReadsListThrough (Reads becomes steps) view u xs) where
      pub filter_view : EachReading (Reads made next) v (IsFiltered (Reads becomes steps) calls u f)
          → ReadsListThrough (Reads made next) view v (filter test xs)
      filter_view gives whole ys read =
          let passes : A → Bool = λ x. test (view x) in
          let parts = gives whole ys read in
          let us = items_of parts.tested in
          let values = values_at calls f passes parts.tested parts.f_then acts parts.called in
          let all = parts.is ∙ ap (λ ps. items_of (filter (λ p. p.1) ps)) values.0
          ∙ filter_answered passes us in
          subst (IsPrefix whole (filter test xs))
          (sym (ap (map view) all ∙ map_of_filter view test us))
          (filter_prefix test whole xs (map view us) (list whole us parts.read))

  module _ {B F : Type 0} {next : T → Option B → T → Type 0} {f : F} where
    module _ {calls : Mut F (A × Unit {0}) (Option B)}
        (gives : EachReading (Reads made next) v (IsFilterMapped (Reads becomes steps) calls u f))
      where
        pub filter_mapped_view : {C : Type 0} (view : A → C) (h : C → Option B) (xs : List C)
            → ActsAs calls f (λ x. h (view x)) → ReadsListThrough (Reads becomes steps) view u xs
            → ReadsList (Reads made next) v (filter_map h xs)
        filter_mapped_view view h xs acts list whole ys read =
            let parts = gives whole ys read in
            let us = parts.items in
            let values = function_values calls f (λ x. h (view x)) us parts.results parts.f_then
            acts
            parts.called in
            let all = parts.is ∙ ap (filter_map (λ o. o)) values.0
            ∙ filter_map_answered (λ x. h (view x)) us ∙ filter_map_of_map view h us in
            subst (IsPrefix whole (filter_map h xs)) (sym all)
            (filter_map_prefix h whole xs (map view us) (list whole us parts.read))

        filter_maps_to : {it : T} → made v it → (W : Type 0) (view : View A) (xs : List view.Target)
            → ReadsListThrough (Reads becomes steps) view.of u xs
            → FilterMapsTo calls f next it view xs W
        filter_maps_to {it} is_made W view xs known p seen from h = (
          refl,
          λ out whole acts.
              let parts = gives true p.items (subst (λ w. Reads made next w v p.items) whole
              (record { it = it; made = is_made; given = run_drains next p it from })) in
              let us = parts.items in
              let values = values_through calls f (option_map out) (λ x. h (view.of x)) us
              parts.results f parts.f_then acts refl parts.called in
              ap (map out) parts.is ∙ values_kept out parts.results
              ∙ ap (filter_map (λ o. o)) values ∙ filter_map_answered (λ x. h (view.of x)) us
              ∙ filter_map_of_map view.of h us
              ∙ ap (filter_map h) (whole_prefix xs (map view.of us) (known true us parts.read)),
        )

        pub filter_maps_through : {it : T} → made v it → (view : View A) → OnFalse view.is_itself
            (EachList (Lists becomes steps view.of) u (FilterMapsThrough calls f next it view))
        filter_maps_through is_made view = (each_view (λ view xs.
            FilterMapsThrough calls f next _ view xs) view (λ view xs known. (
              filter_maps_to is_made ℕ view xs known,
              filter_maps_to is_made (List ℕ) view xs known,
            ))).1
