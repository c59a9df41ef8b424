-- `flatten`: its part, and what it yields.
use Rattle.std.specs.Prelude.{◌≡◌, Bool, ◌||◌, ltb, List, [], ◌∷◌, length, ⊤, false, Option, Some}
use Rattle.std.specs.Prelude.{None, MatchOption, OnSome}
use Rattle.std.specs.List.{flat_map, FoldsTo}
use Rattle.std.proofs.Common.{rules, subst, sym}
use Rattle.std.proofs.lemmas.Bool.{MatchBool-at_false}
use Rattle.std.specs.Iterator.Adapters.{flatten_source as std_flatten_source, flatten_front}
use Rattle.std.specs.Iterator.Adapters.{flatten_done, flatten_steps, TakesNextInner}
use Rattle.std.specs.Iterator.{YieldsThen}
use Rattle.std.specs.declared.iter.Flatten.{Flatten as StdFlatten}
use Rattle.ne_vec.specs.Divisions.{concat}
use Rattle.ne_vec.specs.Lists.{Naming, EachList}
use Rattle.ne_iter.specs.declared.iter.flatten.Flatten.{Flatten}
use Rattle.ne_iter.specs.Sources.{HasFirst, IsNonEmpty}

-- The source of a `Flatten`.
abbrev pub flatten_source : {I : Type 0} → Flatten I → I
flatten_source s = s.iter

-- Each source of us may yield its list of yss to its end; the last one only if `whole` is true.
abbrev pub ReadsEach : {U A : Type 0} → (Bool → U → List A → Type 0) → Bool → List U → List (List A)
    → Type 0
ReadsEach reads whole [] [] = ⊤
ReadsEach reads whole [] (ys ∷ yss) = ⊥
ReadsEach reads whole (u ∷ us) [] = ⊥
ReadsEach reads whole (u ∷ us) (ys ∷ yss) = reads (whole || ltb 0 (length us)) u ys
    × ReadsEach reads whole us yss

module _ {U A : Type 0} (reads : Bool → U → List A → Type 0) where
  -- zs are the lists of the source's items, one after the other. Each item is itself a source, and
  -- `inner` states the lists that it may yield.
  pub record IsFlattened {B : Type 0} (inner : Bool → A → List B → Type 0) (source : U)
      (whole : Bool) (zs : List B) : Type 0 where
    pub sources : List A
    pub lists : List (List B)
    pub read : reads whole source sources
    pub read_each : ReadsEach inner whole sources lists
    pub is : zs ≡ concat lists

-- `flatten` yields the lists of the source's items, one after another.
abbrev pub FlattensLists : {U W B V : Type 0} → (U → List W → Type 0) → (W → List B → Type 0)
    → (V → List B → Type 0) → U → V → Type 0
FlattensLists {W = W} {B = B} lists becomes gives u v = EachList lists u (λ us.
    (inner : W → List B) → Naming (flat_map inner us) (λ ys.
    ((w : W) → becomes w (inner w)) → gives v ys))

module _ {S U J A : Type 0} (steps : S → Option U → S → Type 0) (becomes : U → J → Type 0)
    (inner : J → Option A → J → Type 0) where
  no_first : (s t : S) (xs : List U) → YieldsThen steps s xs None t
      → FoldsTo {P = Unit {0}} (λ _ x _. (j : J) × (k : J) × becomes x j × inner j None k) tt xs tt
      → HasFirst steps s → IsNonEmpty becomes inner → ⊥
  no_first s t [] run passed has full = has t (subst (λ q. steps q None t) (sym run.1) run.2)
  no_first s t (x ∷ xs) run passed has full = full x passed.1.0 passed.1.2 passed.1.1 passed.1.3

  front_none : (o : Option A) (front : Option J) (t : StdFlatten S J) → front ≡ None
      → MatchOption front (o ≡ None) (λ j. (k : J) × inner j o k
      × OnSome o (flatten_front t ≡ Some k)) → o ≡ None
  front_none o None t e h = h
  front_none o (Some j) t e h = let e = e in search rules

  next_inner : (s u : StdFlatten S J) (r : Option A) (o : Option A) → o ≡ None
      → MatchOption o (TakesNextInner steps becomes inner s r u)
      (λ y. (r ≡ Some y) × (std_flatten_source u ≡ std_flatten_source s))
      → TakesNextInner steps becomes inner s r u
  next_inner s u r None e h = h
  next_inner s u r (Some y) e h = let e = e in search rules

  ended_flat : (X : Type 0) (s t u : StdFlatten S J) (r : Option A) → flatten_done s ≡ false
      → TakesNextInner steps becomes inner s r u
      → MatchOption r X (λ y. (None ≡ Some y) × (t ≡ u)) → HasFirst steps (std_flatten_source s)
      → IsNonEmpty becomes inner → ⊥
  ended_flat X s t u None fresh h end has full = no_first (std_flatten_source s)
      (std_flatten_source u) h.0
      (MatchBool-at_false _ _ fresh h.2) h.1 has full
  ended_flat X s t u (Some y) fresh h end has full = let e = end.0 in search rules

  -- Inner sources that are not empty, one after the other.
  pub HasFirst-flatten : (s : StdFlatten S J) → flatten_front s ≡ None → flatten_done s ≡ false
      → HasFirst steps (std_flatten_source s) → IsNonEmpty becomes inner
      → HasFirst (flatten_steps steps becomes inner) s
  unfolding flatten_steps
  HasFirst-flatten s empty fresh has full t ended =
      let f = ended.2 in
      ended_flat _ s t ended.1 ended.0 fresh (next_inner s ended.1 ended.0 f.0
      (front_none f.0 (flatten_front s) ended.1 empty f.1) f.2) ended.3 has full
