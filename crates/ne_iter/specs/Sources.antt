-- The lists that a source of items may yield, and the two laws of sources. `becomes` is the
-- `into_iter_gives` of a source, and `steps` the `next_gives` of its iterator.
use Rattle.std.specs.Prelude.{◌≡◌, Bool, true, List, Option, Some, None, map, ◌+◌, ◌∷◌}
use Rattle.std.specs.Iterator.{Count, DrainsIf, MakesProgress}
use Rattle.std.specs.Iterator.Runs.{EachRunFrom, Run, SomeRun, WholeRun}
use Rattle.ne_vec.specs.Lists.{IsPrefix}

-- The source u may yield the items xs first, in this order. If `whole` is true, u may then end.
pub record Reads {U S A : Type 0} (becomes : U → S → Type 0) (steps : S → Option A → S → Type 0)
    (whole : Bool) (u : U) (xs : List A) : Type 0 where
  pub it : S
  pub made : becomes u it
  pub given : DrainsIf steps (whole ≡ true) it xs

-- P holds for each list that the source may yield, so far or to its end.
abbrev pub EachReading : {U A : Type 0} → (Bool → U → List A → Type 0) → U
    → (Bool → List A → Type 0) → Type 0
EachReading {A = A} reads u P = (whole : Bool) (xs : List A) → reads whole u xs → P whole xs

-- The first call of the iterator returns an item, in every case.
abbrev pub HasFirst : {S A : Type 0} → (S → Option A → S → Type 0) → S → Type 0
HasFirst {S = S} steps it = (t : S) → steps it None t → ⊥

-- Never empty: the first call of any iterator that a source becomes returns an item.
abbrev pub IsNonEmpty : {U S A : Type 0} → (U → S → Type 0) → (S → Option A → S → Type 0) → Type 0
IsNonEmpty {U} {S} becomes steps = (u : U) (it : S) → becomes u it → HasFirst steps it

-- Same lists: a source, and the source that is made from it, may yield the same lists.
abbrev pub SameLists : {U S V T A : Type 0} → (U → S → Type 0) → (S → Option A → S → Type 0)
    → (U → V → Type 0) → (V → T → Type 0) → (T → Option A → T → Type 0) → Type 0
SameLists {U} {V = V} {A = A} becomes steps makes becomes' steps' = (u : U) (whole : Bool)
    (xs : List A)
    → (Reads becomes steps whole u xs → (v : V) × makes u v × Reads becomes' steps' whole v xs)
    × ((v : V) → makes u v → Reads becomes' steps' whole v xs → Reads becomes steps whole u xs)

-- The source u becomes an iterator that first yields x, and is then `rest`, which may be called if
-- the iterator could be, and has fewer items left if the iterator ends.
abbrev pub DrawsFirst : {U S A : Type 0} → (U → S → Type 0) → (S → Option A → S → Type 0)
    → (S → Type 0) → (S → Count) → U → A → S → Type 0
DrawsFirst {S = S} becomes steps can left u x rest = (it : S) × becomes u it
    × steps it (Some x) rest × MakesProgress can left it (Some x) rest

-- P holds for an iterator that the source u becomes.
abbrev pub Becomes : {U S : Type 0} → (U → S → Type 0) → U → (S → Type 0) → Type 0
Becomes {S = S} becomes u P = (it : S) × becomes u it × P it

module _ {U S A : Type 0} (becomes : U → S → Type 0) (steps : S → Option A → S → Type 0)
    (u : U) (P : Run steps → Type 0) where
  -- P holds for some run of an iterator that the source u becomes.
  abbrev pub SomeRunOf : Type 0
  SomeRunOf = Becomes becomes u (λ it. SomeRun steps it P)

  -- P holds for some run to `None` of an iterator that the source u becomes.
  abbrev pub WholeRunOf : Type 0
  WholeRunOf = Becomes becomes u (λ it. WholeRun steps it P)

-- If `it` returned x and became `rest`, each run of `rest` with x before it is a run of `it`, and P
-- holds for its items.
abbrev pub BeginsRuns : {S A : Type 0} → (S → Option A → S → Type 0) → (List A → Type 0) → A → S
    → S → Type 0
BeginsRuns steps P x rest it = EachRunFrom steps rest (λ p. SomeRun steps it (λ q.
    (q.whole ≡ p.whole) × (q.len ≡ p.len + 1) × (q.items ≡ x ∷ p.items) × P q.items))

-- The source u yields the list xs and no other: a prefix of xs so far, and at its end all of xs.
abbrev pub ReadsList : {U A : Type 0} → (Bool → U → List A → Type 0) → U → List A → Type 0
ReadsList {A = A} reads u xs = (whole : Bool) (ys : List A) → reads whole u ys
    → IsPrefix whole xs ys

-- The source u yields, through `view`, the list xs and no other.
abbrev pub ReadsListThrough : {U A B : Type 0} → (Bool → U → List A → Type 0) → (A → B) → U → List B
    → Type 0
ReadsListThrough {A = A} reads view u xs =
    (whole : Bool) (ys : List A) → reads whole u ys → IsPrefix whole xs (map view ys)
