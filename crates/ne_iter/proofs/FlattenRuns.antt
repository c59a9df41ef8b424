-- `flatten`: from the lists of its source and of the inner sources to the run of its iterator.
use Rattle.std.proofs.Common.{subst, sym, ap, ◌∙◌, refl, arith, append_assoc}
use Rattle.std.specs.Prelude.{◌≡◌, List, [], ◌∷◌, ◌++◌, length, Option, Some, None, Bool, true}
use Rattle.std.specs.Prelude.{false, ltb, ◌||◌, MatchOption}
use Rattle.std.specs.Iterator.{DrainsIf, Yields}
use Rattle.std.specs.List.{FoldsTo}
use Rattle.std.specs.Fn.{Mut}
use Rattle.std.specs.Iterator.Adapters.{flatten_steps, flatten_front, flatten_back, flatten_done}
use Rattle.std.specs.Iterator.Adapters.{map_source, map_callee}
use Rattle.std.specs.declared.iter.Flatten.{Flatten}
use Rattle.std.specs.declared.iter.Map.{Map}
use Rattle.std.proofs.iter.runs.Flat.{flat_Map_runs}
use Rattle.std.proofs.iter.Next.{Yields-more}
use Rattle.std.proofs.lemmas.List.{append-nil, length-append}
use Rattle.std.proofs.lemmas.Bool.{lt-ltb, or_right}
use Rattle.ne_vec.specs.Divisions.{concat}
use Rattle.ne_iter.specs.Sources.{Reads}
use Rattle.ne_iter.specs.Flatten.{ReadsEach}
use Rattle.ne_iter.specs.FlatMap.{FlatMapsRuns}

-- The iterator of `flatten` over s, which holds the inner iterator o, if there is one.
abbrev pub flatten_of : {S J : Type 0} → S → Option J → Flatten S J
flatten_of s o = record { iter = s; front = o; back = None; done = false }

module _ {S U J A : Type 0} (steps : S → Option U → S → Type 0) (becomes : U → J → Type 0)
    (inner : J → Option A → J → Type 0) where
  -- Sources of us become inner iterators that yield nothing.
  abbrev Empties : List U → Type 0
  Empties us = FoldsTo {P = Unit {0}}
      (λ _ x _. (j : J) × (k : J) × becomes x j × inner j None k) tt us tt

  empties_more : (us : List U) (x : U) (j k : J) → Empties us → becomes x j → inner j None k
      → Empties (us ++ x ∷ [])
  empties_more [] x j k e made end = (tt, (j, k, made, end), refl)
  empties_more (u ∷ us) x j k e made end = (tt, e.1, empties_more us x j k e.2 made end)

  -- The inner iterator that is held, if there is one, has ended.
  abbrev Spent : Option J → Type 0
  Spent o = MatchOption o (◌≡◌ {A = Option A} None None)
      (λ j. (k : J) × inner j None k × Unit {0})

  held : (s : S) (j k : J) (y : A) → inner j (Some y) k
      → flatten_steps steps becomes inner (flatten_of s (Some j)) (Some y) (flatten_of s (Some k))
  unfolding flatten_steps
  held s j k y gave = (
    Some y,
    flatten_of s (Some k),
    (Some y, (k, gave, refl), (refl, refl), refl, refl, tt),
    (refl, refl),
  )

  module _ (s : S) (o : Option J) (skipped : List U) (t u : S) (spent : Spent o)
      (empty : Empties skipped) (ran : Yields steps s skipped t) where
    opens : (x : U) (j k : J) (y : A) → steps t (Some x) u → becomes x j → inner j (Some y) k
        → flatten_steps steps becomes inner (flatten_of s o) (Some y) (flatten_of u (Some k))
    unfolding flatten_steps
    opens x j k y drawn made gave = (
      Some y,
      flatten_of u (Some k),
      (
        None,
        spent,
        (skipped, empty, (x, j, k, (t, ran, drawn), made, gave, refl)),
        refl,
        refl,
        tt,
      ),
      (refl, refl),
    )

    ends : steps t None u
        → (v : Flatten S J) × flatten_steps steps becomes inner (flatten_of s o) None v
    unfolding flatten_steps
    ends end =
        let v : Flatten S J = record { iter = u; front = None; back = None; done = true } in (
          v,
          (
            None,
            v,
            (None, spent, (skipped, empty, (t, ran, end)), refl, refl, refl),
            (refl, refl, refl, refl, refl),
          ),
        )

  abbrev Flat : Bool → Flatten S J → List A → Type 0
  Flat whole = DrainsIf (flatten_steps steps becomes inner) (whole ≡ true)

  more_left : (whole : Bool) (u : U) (us : List U) → (whole || ltb 0 (length (u ∷ us))) ≡ true
  more_left whole u us = or_right whole _ (lt-ltb 0 (length (u ∷ us)) (omega arith))

  -- The iterator that is held yields the rest of its list, and then the others theirs.
  from_held : (whole : Bool) (s : S) (us : List U) (yss : List (List A))
      → ReadsEach (Reads becomes inner) whole us yss
      → ((o : Option J) → Spent o → Flat whole (flatten_of s o) (concat yss)) → (j : J)
      → (ys : List A) → DrainsIf inner ((whole || ltb 0 (length us)) ≡ true) j ys
      → Flat whole (flatten_of s (Some j)) (ys ++ concat yss)
  from_held whole s us yss m others j (y ∷ ys) k =
      let rest = from_held whole s us yss m others k.1.0 ys (k.0, k.1.2, k.2) in
      (rest.0, (flatten_of s (Some k.1.0), held s j k.1.0 y k.1.1, rest.1), rest.2)
  from_held whole s (u ∷ us) yss m others j [] k =
      let end = k.2 (more_left whole u us) in
      others (Some j) (end.0, subst (λ q. inner q None end.0) (sym k.1) end.1, tt)
  from_held true s [] yss m others j [] k =
      let end = k.2 refl in
      others (Some j) (end.0, subst (λ q. inner q None end.0) (sym k.1) end.1, tt)
  from_held false s [] [] m others j [] k = (flatten_of s (Some j), refl, λ w. absurd cc)
  from_held false s [] (ys ∷ yss) m others j [] k = absurd m

  -- What is held has ended, and so have the sources that were skipped.
  from_spent : (whole : Bool) (s : S) (o : Option J) (skipped : List U) (t : S) (us : List U)
      (yss : List (List A)) → Spent o → Empties skipped → Yields steps s skipped t
      → DrainsIf steps (whole ≡ true) t us → ReadsEach (Reads becomes inner) whole us yss
      → Flat whole (flatten_of s o) (concat yss)
  from_spent whole s o skipped t [] [] spent empty ran k m = (
    flatten_of s o,
    refl,
    λ w. let end = k.2 w in
        ends s o skipped t end.0 spent empty ran
        (subst (λ q. steps q None end.0) (sym k.1) end.1),
  )
  from_spent whole s o skipped t [] (ys ∷ yss) spent empty ran k m = absurd m
  from_spent whole s o skipped t (u ∷ us) [] spent empty ran k m = absurd m
  from_spent whole s o skipped t (u ∷ us) ((y ∷ ys) ∷ yss) spent empty ran k m =
      let read = m.0 in
      let first = read.given.1 in
      let rest = from_held whole k.1.0 us yss m.1
      (λ q over. from_spent whole k.1.0 q [] k.1.0 us yss over refl refl (k.0, k.1.2, k.2) m.1)
      first.0 ys (read.given.0, first.2, read.given.2) in (
        rest.0,
        (
          flatten_of k.1.0 (Some first.0),
          opens s o skipped t k.1.0 spent empty ran u read.it first.0 y k.1.1 read.made first.1,
          rest.1,
        ),
        rest.2,
      )
  from_spent whole s o skipped t (u ∷ v ∷ us) ([] ∷ yss) spent empty ran k m =
      let read = m.0 in
      let end = read.given.2 (more_left whole v us) in
      from_spent whole s o (skipped ++ u ∷ []) k.1.0 (v ∷ us) yss spent
      (empties_more skipped u read.it end.0 empty read.made
      (subst (λ q. inner q None end.0) (sym read.given.1) end.1))
      (Yields-more steps s skipped t u k.1.0 ran k.1.1) (k.0, k.1.2, k.2) m.1
  from_spent true s o skipped t (u ∷ []) ([] ∷ yss) spent empty ran k m =
      let read = m.0 in
      let end = read.given.2 refl in
      from_spent true s o (skipped ++ u ∷ []) k.1.0 [] yss spent
      (empties_more skipped u read.it end.0 empty read.made
      (subst (λ q. inner q None end.0) (sym read.given.1) end.1))
      (Yields-more steps s skipped t u k.1.0 ran k.1.1) (k.0, k.1.2, k.2) m.1
  from_spent false s o skipped t (u ∷ []) ([] ∷ []) spent empty ran k m = (
    flatten_of s o,
    refl,
    λ w. absurd cc,
  )
  from_spent false s o skipped t (u ∷ []) ([] ∷ ys ∷ yss) spent empty ran k m = absurd m.1

  -- The lists of the inner sources, one after the other.
  pub DrainsIf-flattened : (whole : Bool) (s : S) (us : List U) (yss : List (List A))
      → DrainsIf steps (whole ≡ true) s us → ReadsEach (Reads becomes inner) whole us yss
      → Flat whole (flatten_of s None) (concat yss)
  DrainsIf-flattened whole s us yss k m = from_spent whole s None [] s us yss refl refl refl k m

-- What holds of the two parts of `flat_map`, and then of its iterator.
pub begins_flat_map : {S A W J B F P : Type 0} (steps : S → Option A → S → Type 0)
    (becomes : W → J → Type 0) (inner : J → Option B → J → Type 0) (calls : Mut F (A × Unit {0}) W)
    (it : Map S F) (f : F) → P → map_callee it ≡ f
    → P × (map_callee it ≡ f) × (flatten_front (flatten_of {J = J} it None) ≡ None)
    × (flatten_back (flatten_of {J = J} it None) ≡ None)
    × (flatten_done (flatten_of {J = J} it None) ≡ false)
    × FlatMapsRuns steps becomes inner calls f (map_source it) (flatten_of it None)
begins_flat_map steps becomes inner calls it f p callee = (
  p,
  callee,
  refl,
  refl,
  refl,
  flat_Map_runs steps calls becomes inner (flatten_of it None) (map_source it) f refl callee refl
      refl refl,
)

-- One more source, after others that were read to their ends.
pub ReadsEach-more : {U A : Type 0} (reads : Bool → U → List A → Type 0) (whole : Bool)
    (us : List U) (yss : List (List A)) (u : U) (ys : List A) → ReadsEach reads true us yss
    → reads whole u ys → ReadsEach reads whole (us ++ u ∷ []) (yss ++ ys ∷ [])
ReadsEach-more reads true [] [] u ys m h = (h, tt)
ReadsEach-more reads false [] [] u ys m h = (h, tt)
ReadsEach-more reads whole [] (zs ∷ yss) u ys m h = absurd m
ReadsEach-more reads whole (v ∷ us) [] u ys m h = absurd m
ReadsEach-more reads whole (v ∷ us) (zs ∷ yss) u ys m h = (
  subst (λ b. reads b v zs) (sym (or_right whole _ (lt-ltb 0 (length (us ++ u ∷ []))
      (omega (arith, length-append us (u ∷ [])))))) m.0,
  ReadsEach-more reads whole us yss u ys m.1 h,
)

pub concat-more : {A : Type 0} (yss : List (List A)) (ys : List A)
    → concat (yss ++ ys ∷ []) ≡ concat yss ++ ys
concat-more [] ys = append-nil ys
concat-more (zs ∷ yss) ys = ap (λ l. zs ++ l) (concat-more yss ys)
    ∙ sym (append_assoc zs (concat yss) ys)
