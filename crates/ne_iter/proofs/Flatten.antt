-- `flatten`: from a run of its iterator to the list that it yields.
use Rattle.std.proofs.Common.{rules, subst, sym, ap, ◌∙◌, refl, arith, append_assoc, map-id}
use Rattle.std.specs.Prelude.{◌≡◌, List, [], ◌∷◌, ◌++◌, length, Option, Some, None, Bool, true}
use Rattle.std.specs.Prelude.{false, ltb, ◌||◌, MatchOption, OnSome, IfNone, map}
use Rattle.std.specs.Iterator.{DrainsIf}
use Rattle.std.specs.List.{FoldsTo, All, AllZip, flat_map}
use Rattle.std.specs.Iterator.Adapters.{flatten_source, flatten_front, flatten_back, flatten_done}
use Rattle.std.specs.Iterator.Adapters.{flatten_steps, flatten_front_steps, TakesNextInner}
use Rattle.std.specs.declared.iter.Flatten.{Flatten}
use Rattle.std.proofs.lemmas.List.{append-nil}
use Rattle.std.proofs.lemmas.Option.{none-some}
use Rattle.std.proofs.lemmas.Bool.{MatchBool-at_false, lt-ltb, or_left, or_right}
use Rattle.std.proofs.lemmas.List.Elements.{All-cons, All-head, All-nil, All-tail}
use Rattle.std.proofs.lemmas.Grind.{flat_map-append}
use Rattle.std.proofs.iter.runs.Sources.{lists}
use Rattle.ne_vec.specs.Divisions.{concat}
use Rattle.ne_vec.specs.Lists.{IsPrefix, Lists, YieldsItems, itself}
use Rattle.ne_vec.specs.ListLaws.{triggered}
use Rattle.ne_iter.specs.Sources.{Reads, SameLists, EachReading, ReadsList}
use Rattle.ne_iter.specs.Flatten.{ReadsEach, IsFlattened, FlattensLists}
use Rattle.ne_iter.specs.SourceLists.{BecomesList}
use Rattle.ne_iter.specs.LoopLaws.{Yields-append}
use Rattle.ne_iter.proofs.SourceLists.{read_lists}
use Rattle.ne_iter.specs.LoopLaws.{lists_read, becomes_read}

module _ {S U J A : Type 0} (steps : S → Option U → S → Type 0) (becomes : U → J → Type 0)
    (inner : J → Option A → J → Type 0) where
  -- The inner iterator that is held, if there is one, yielded ys.
  abbrev Front : Bool → Option J → List A → Type 0
  Front b o ys = MatchOption o (ys ≡ []) (λ j. DrainsIf inner (b ≡ true) j ys)

  abbrev Apart : Bool → Flatten S J → List A → Type 0
  Apart whole s zs = (ys : List A) × (us : List U) × (yss : List (List A))
      × Front (whole || ltb 0 (length us)) (flatten_front s) ys
      × DrainsIf steps (whole ≡ true) (flatten_source s) us
      × ReadsEach (Reads becomes inner) whole us yss × (zs ≡ ys ++ concat yss)

  -- Inner iterators that yielded nothing.
  empties : (whole : Bool) (cs us : List U) (yss : List (List A))
      → FoldsTo {P = Unit {0}} (λ _ x _. (j : J) × (k : J) × becomes x j × inner j None k) tt cs tt
      → ReadsEach (Reads becomes inner) whole us yss → (e : List (List A))
      × ReadsEach (Reads becomes inner) whole (cs ++ us) e × (concat e ≡ concat yss)
  empties whole [] us yss c m = (yss, m, refl)
  empties whole (x ∷ cs) us yss c m =
      let more = empties whole cs us yss c.2 m in (
        [] ∷ more.0,
        (
          record {
            it = c.1.0;
            made = c.1.2;
            given = (c.1.0, refl, λ _. (c.1.1, c.1.3));
          },
          more.1,
        ),
        more.2,
      )

  unasked : (o : Option J) → Front false o []
  unasked None = refl
  unasked (Some j) = (j, refl, λ e. let e = e in search rules)

  abbrev Asked : Flatten S J → Option A → Flatten S J → Type 0
  Asked s o t = MatchOption (flatten_front s) (o ≡ None)
      (λ j. (k : J) × inner j o k × OnSome o (flatten_front t ≡ Some k))

  abbrev Then : Flatten S J → Option A → Option A → Flatten S J → Type 0
  Then s o r t = MatchOption o (TakesNextInner steps becomes inner s r t)
      (λ y. (r ≡ Some y) × (flatten_source t ≡ flatten_source s))

  spent : (b : Bool) (o : Option J) (P : J → Type 0)
      → MatchOption o (◌≡◌ {A = Option A} None None) (λ j. (k : J) × inner j None k × P k)
      → Front b o []
  spent b None P h = refl
  spent b (Some j) P h = (j, refl, λ _. (h.0, h.1))

  gave : (b : Bool) (o next : Option J) (x y : A) (ys : List A) → Some x ≡ Some y
      → MatchOption o (Some y ≡ None) (λ j. (k : J) × inner j (Some y) k × (next ≡ Some k))
      → Front b next ys → Front b o (x ∷ ys)
  gave b None next x y ys e h rest = absurd (none-some y (sym h))
  gave b (Some j) next x y ys e h rest =
      let r : DrainsIf inner (b ≡ true) h.0 ys = subst (λ o. Front b o ys) h.2 rest in
      (r.0, (h.0, subst (λ q. inner j q h.0) (sym e) h.1, r.1), r.2)

  ended : (s t : Flatten S J) → flatten_done s ≡ false → (o : Option A) → Asked s o t
      → Then s o None t → Apart true s []
  ended s t fresh None a c =
      let y = MatchBool-at_false _ _ fresh c.2 in
      let e = empties true c.0 [] [] c.1 tt in
      let us : c.0 ++ [] ≡ c.0 = append-nil c.0 in (
        [],
        c.0,
        e.0,
        spent true (flatten_front s) _ a,
        (y.0, y.1, λ _. (flatten_source t, y.2)),
        subst (λ l. ReadsEach (Reads becomes inner) true l e.0) us e.1,
        sym e.2,
      )
  ended s t fresh (Some y) a c = absurd (none-some y c.0)

  stepped : (whole : Bool) (s t : Flatten S J) (x : A) (zs : List A) → Apart whole t zs
      → (o : Option A) → Asked s o t → Then s o (Some x) t → Apart whole s (x ∷ zs)
  stepped whole s t x zs m (Some y) a c = (
    x ∷ m.0,
    m.1,
    m.2,
    gave _ (flatten_front s) (flatten_front t) x y m.0 c.0 a m.3,
    subst (λ u. DrainsIf steps (whole ≡ true) u m.1) c.1 m.4,
    m.5,
    ap (λ l. x ∷ l) m.6,
  )
  stepped whole s t x zs m None a c =
      let n = c.2 in
      let r : DrainsIf inner ((whole || ltb 0 (length m.1)) ≡ true) n.2 m.0 = subst
      (λ o. Front (whole || ltb 0 (length m.1)) o m.0) n.6 m.3 in
      let here : Reads becomes inner (whole || ltb 0 (length m.1)) n.0
      (x ∷ m.0) = record { it = n.1; made = n.4; given = (r.0, (n.2, n.5, r.1), r.2) } in
      let e = empties whole c.0 (n.0 ∷ m.1) ((x ∷ m.0) ∷ m.2) c.1 (here, m.5) in (
        [],
        c.0 ++ (n.0 ∷ m.1),
        e.0,
        spent _ (flatten_front s) _ a,
        (
          m.4.0,
          Yields-append steps c.0 (n.0 ∷ m.1) (flatten_source s) n.3.0 m.4.0 n.3.1
              (flatten_source t, n.3.2, m.4.1),
          m.4.2,
        ),
        e.1,
        ap (λ l. x ∷ l) m.6 ∙ sym e.2,
      )

  apart : (zs : List A) (whole : Bool) (s : Flatten S J) → flatten_done s ≡ false
      → DrainsIf (flatten_front_steps steps becomes inner) (whole ≡ true) s zs → Apart whole s zs
  apart [] false s fresh k = (
    [],
    [],
    [],
    unasked (flatten_front s),
    (flatten_source s, refl, λ e. let e = e in search rules),
    tt,
    refl,
  )
  apart [] true s fresh k =
      let h = subst (λ j. flatten_front_steps steps becomes inner j None (k.2 refl).0) (sym k.1)
      (k.2 refl).1 in
      ended s (k.2 refl).0 fresh h.0 h.1 h.2
  apart (x ∷ zs) whole s fresh k =
      let h = k.1.1 in
      stepped whole s k.1.0 x zs (apart zs whole k.1.0 (h.3 ∙ fresh) (k.0, k.1.2, k.2)) h.0 h.1 h.2

  abbrev After : Option A → Flatten S J → Option A → Flatten S J → Type 0
  After o u r t = MatchOption o
      ((flatten_source t ≡ flatten_source u) × (flatten_front t ≡ flatten_front u)
      × (flatten_done t ≡ flatten_done u)
      × MatchOption (flatten_back u) (r ≡ None)
      (λ j. (k : J) × inner j r k × OnSome r (flatten_back t ≡ Some k))
      × IfNone r (flatten_back t ≡ None))
      (λ y. (r ≡ Some y) × (t ≡ u))

  no_back : (b : Option J) (r : Option A) (x : A) (P : J → Type 0) → b ≡ None
      → MatchOption b (Some x ≡ None) P → ⊥
  no_back b r x P e h = none-some x (sym (subst (λ o. MatchOption o (Some x ≡ None) P) e h))

  item_of_front : (s t u : Flatten S J) (x : A) → flatten_back s ≡ None → (o : Option A)
      → flatten_front_steps steps becomes inner s o u → After o u (Some x) t
      → flatten_front_steps steps becomes inner s (Some x) t
  item_of_front s t u x none None a c = absurd (no_back (flatten_back u) None x _ (a.4 ∙ none) c.3)
  item_of_front s t u x none (Some y) a c = subst
      (flatten_front_steps steps becomes inner s (Some x)) (sym c.1)
      (subst (λ q. flatten_front_steps steps becomes inner s q u) (sym c.0) a)

  end_of_front : (s t u : Flatten S J) (o : Option A)
      → flatten_front_steps steps becomes inner s o u → After o u None t
      → flatten_front_steps steps becomes inner s None u
  end_of_front s t u None a c = a
  end_of_front s t u (Some y) a c = absurd (none-some y c.0)

  at_front : (zs : List A) (W : Type 0) (s : Flatten S J) → flatten_back s ≡ None
      → DrainsIf (flatten_steps steps becomes inner) W s zs
      → DrainsIf (flatten_front_steps steps becomes inner) W s zs
  unfolding flatten_steps
  at_front [] W s none k = (
    k.0,
    k.1,
    λ w. let h = (k.2 w).1 in
        (h.1, end_of_front k.0 (k.2 w).0 h.1 h.0 h.2 h.3),
  )
  at_front (x ∷ zs) W s none k =
      let h = k.1.1 in
      let step = item_of_front s k.1.0 h.1 x none h.0 h.2 h.3 in
      let rest = at_front zs W k.1.0 (step.4 ∙ none) (k.0, k.1.2, k.2) in
      (rest.0, (k.1.0, step, rest.1), rest.2)

  pub DrainsIf-flatten : (whole : Bool) (s : Flatten S J) (zs : List A) → flatten_front s ≡ None
      → flatten_back s ≡ None → flatten_done s ≡ false
      → DrainsIf (flatten_steps steps becomes inner) (whole ≡ true) s zs
      → (us : List U) × (yss : List (List A)) × DrainsIf steps (whole ≡ true) (flatten_source s) us
      × ReadsEach (Reads becomes inner) whole us yss × (zs ≡ concat yss)
  DrainsIf-flatten whole s zs none back fresh k =
      let m = apart zs whole s fresh (at_front zs _ s back k) in
      let nothing : m.0 ≡ [] = subst (λ o. Front (whole || ltb 0 (length m.1)) o m.0) none m.3 in
      (m.1, m.2, m.4, m.5, m.6 ∙ ap (λ l. l ++ concat m.2) nothing)

-- The lists of sources, one after another: each source is paired with an x, and yields `inner x`.
joined_prefix : {X U A : Type 0} (reads : Bool → U → List A → Type 0) (inner : X → List A)
    (whole : Bool) (xs : List X) (us : List U) (yss : List (List A))
    → AllZip (λ x u. ReadsList reads u (inner x)) xs us → ReadsEach reads whole us yss
    → IsPrefix whole (flat_map inner xs) (concat yss)
joined_prefix reads inner whole [] [] [] beside h = ([], refl, λ _. refl)
joined_prefix reads inner whole [] [] (ys ∷ yss) beside h = absurd h
joined_prefix reads inner whole [] (u ∷ us) yss beside h = absurd beside
joined_prefix reads inner whole (x ∷ xs) [] yss beside h = absurd beside
joined_prefix reads inner whole (x ∷ xs) (u ∷ us) [] beside h = absurd h
joined_prefix reads inner whole (x ∷ []) (u ∷ v ∷ us) (ys ∷ yss) beside h = absurd beside.1
joined_prefix reads inner whole (x ∷ z ∷ xs) (u ∷ []) (ys ∷ yss) beside h = absurd beside.1
joined_prefix reads inner whole (x ∷ []) (u ∷ []) (ys ∷ zs ∷ yss) beside h = absurd h.1
joined_prefix reads inner whole (x ∷ []) (u ∷ []) (ys ∷ []) beside h =
    let first = beside.0 _ ys h.0 in (
      first.0,
      append-nil (inner x) ∙ first.1 ∙ ap (λ l. l ++ first.0) (sym (append-nil ys)),
      λ w. first.2 (or_left whole false w),
    )
joined_prefix reads inner whole (x ∷ z ∷ xs) (u ∷ v ∷ us) (ys ∷ yss) beside h =
    let first = beside.0 _ ys h.0 in
    let others = joined_prefix reads inner whole (z ∷ xs) (v ∷ us) yss beside.1 h.1 in
    let ended = first.2 (or_right whole _ (lt-ltb 0 (length (v ∷ us)) (omega arith))) in
    let all = first.1 ∙ ap (λ l. ys ++ l) ended ∙ append-nil ys in (
      others.0,
      ap (λ l. l ++ flat_map inner (z ∷ xs)) all ∙ ap (λ l. ys ++ l) others.1
          ∙ sym (append_assoc ys (concat yss) others.0),
      others.2,
    )

-- The lists of sources, one after another, if only a prefix of the sources was yielded.
pub joined_prefixes : {X U A : Type 0} (reads : Bool → U → List A → Type 0) (inner : X → List A)
    (whole : Bool) (all xs : List X) (us : List U) (yss : List (List A)) → IsPrefix whole all xs
    → AllZip (λ x u. ReadsList reads u (inner x)) xs us → ReadsEach reads whole us yss
    → IsPrefix whole (flat_map inner all) (concat yss)
joined_prefixes reads inner whole all xs us yss f beside h =
    let g = joined_prefix reads inner whole xs us yss beside h in (
      g.0 ++ flat_map inner f.0,
      ap (flat_map inner) f.1 ∙ flat_map-append inner xs f.0
          ∙ ap (λ l. l ++ flat_map inner f.0) g.1
          ∙ append_assoc (concat yss) g.0 (flat_map inner f.0),
      λ w. let a = g.2 w in let b = f.2 w in
          ap (λ l. l ++ flat_map inner f.0) a ∙ ap (flat_map inner) b,
    )

-- A fact that holds for each item of a list holds for each item of a prefix.
all_prefix : {A : Type 0} (P : A → Type 0) (xs more : List A) → All P (xs ++ more) → All P xs
all_prefix P [] more all = All-nil P
all_prefix P (x ∷ xs) more all = All-cons P x xs (All-head P x (xs ++ more) all)
    (all_prefix P xs more (All-tail P x (xs ++ more) all))

module _ {A U B : Type 0} (reads : Bool → U → List B → Type 0) (source : A → U)
    (lists : A → List B) where
  -- The source of an item yields the item's list.
  abbrev pub GivesOwnList : A → Type 0
  GivesOwnList x = ReadsList reads (source x) (lists x)

  own_lists : (xs : List A) → All GivesOwnList xs
      → AllZip (λ x u. ReadsList reads u (lists x)) xs (map source xs)
  own_lists [] gives = tt
  own_lists (x ∷ xs) gives = (
    All-head GivesOwnList x xs gives,
    own_lists xs (All-tail GivesOwnList x xs gives),
  )

  -- The lists of the sources of items, if only a prefix of the items was yielded.
  pub joined_items : (whole : Bool) (all xs : List A) (yss : List (List B)) → All GivesOwnList all
      → IsPrefix whole all xs → ReadsEach reads whole (map source xs) yss
      → IsPrefix whole (flat_map lists all) (concat yss)
  joined_items whole all xs yss gives f h =
      joined_prefixes reads lists whole all xs (map source xs) yss f
      (own_lists xs (all_prefix GivesOwnList xs f.0 (subst (All GivesOwnList) f.1 gives))) h

-- The lists of sources that are themselves the items, if only a prefix was yielded.
pub joined_sources : {U B : Type 0} (reads : Bool → U → List B → Type 0) (lists : U → List B)
    (whole : Bool) (all us : List U) (yss : List (List B))
    → All (λ u. ReadsList reads u (lists u)) all → IsPrefix whole all us
    → ReadsEach reads whole us yss → IsPrefix whole (flat_map lists all) (concat yss)
joined_sources reads lists whole all us yss gives f h =
    joined_items reads (λ u. u) lists whole all us yss gives f
    (subst (λ l. ReadsEach reads whole l yss) (sym (map-id us)) h)

-- Each source paired with itself.
pub each_gives : {U A : Type 0} (reads : Bool → U → List A → Type 0) (inner : U → List A)
    → ((u : U) → ReadsList reads u (inner u)) → (us : List U)
    → AllZip (λ v u. ReadsList reads u (inner v)) us us
each_gives reads inner gives [] = tt
each_gives reads inner gives (u ∷ us) = (gives u, each_gives reads inner gives us)

pub flatten_list : {U W V S T B : Type 0} {becomes : U → S → Type 0}
    {steps : S → Option W → S → Type 0} {reads : Bool → W → List B → Type 0}
    {made : V → T → Type 0} {next : T → Option B → T → Type 0} {u : U} {v : V}
    → EachReading (Reads made next) v (IsFlattened (Reads becomes steps) reads u)
    → (inner : W → List B) (us : List W) → ((w : W) → ReadsList reads w (inner w))
    → ReadsList (Reads becomes steps) u us → ReadsList (Reads made next) v (flat_map inner us)
flatten_list {reads = reads} gives inner us each list whole zs read =
    let parts = gives whole zs read in
    subst (IsPrefix whole (flat_map inner us)) (sym parts.is)
    (joined_prefixes reads inner whole us parts.sources parts.sources parts.lists
    (list whole parts.sources parts.read) (each_gives reads inner each parts.sources)
    parts.read_each)

-- The lists of inner sources, one after another.
module _ {U W V S R T B X Y : Type 0} {becomes : U → S → Type 0} {meets : W → R → Type 0}
    {other : R → Option B → R → Type 0} {made : V → T → Type 0} {next : T → Option B → T → Type 0}
    {makes : W → X → Type 0} {made' : X → Y → Type 0} {next' : Y → Option B → Y → Type 0}
    {u : U} {v : V} (same : SameLists meets other makes made' next') where
  pub flattens_lists : {steps : S → Option W → S → Type 0}
      → ((inner : W → List B) (us : List W)
      → ((w : W) → ReadsList (Reads meets other) w (inner w))
      → ReadsList (Reads becomes steps) u us → ReadsList (Reads made next) v (flat_map inner us))
      → FlattensLists (Lists becomes steps (λ x. x)) (BecomesList makes made' next' itself)
      (YieldsItems made next) u
      v
  flattens_lists {steps} law us lists = (
    triggered u us,
    λ inner. (
      refl,
      λ each. read_lists made next v (flat_map inner us)
          (law inner us
          (λ w. becomes_read meets other makes made' next' same w (inner w) (each w))
          (lists_read becomes steps u us lists)),
    ),
  )
