-- The list that a source yields, from its first item to its last, also through a view: a function
-- of an item, `λ x. x` for the items themselves. `grind` unfolds no `unfoldable` definition.
-- This file stands in this crate because vectors, slices, chunks and runs use `Listed`.
use Rattle.std.specs.Prelude.{◌≡◌, ◌≤◌, ◌<◌, ℕ, Bool, slice_get, true, List, [], ◌++◌, map, length}
use Rattle.std.specs.Prelude.{Option, false, ◌&&◌}
use Rattle.std.specs.Bool.{OnFalse}
use Rattle.std.specs.Borrow.{Bor}
use Rattle.std.specs.List.{fold}
use Rattle.std.specs.Iterator.{DrainsIf}
use Rattle.std.specs.Iterator.Runs.{EachRunFrom, FoldIsAtMost, Run, Trigger}

-- A view turns each item x into a value `of x` of type Target; `is_itself` says that `of x` is x.
pub record View (A : Type 0) : Type 1 where
  pub Target : Type 0
  pub of : A → Target
  pub is_itself : Bool

-- An item x through this view is `f x`.
abbrev pub view_by : {A B : Type 0} → (A → B) → View A
view_by {B = B} f = record { Target = B; of = f; is_itself = false }

-- An item through this view is itself.
abbrev pub itself : {A : Type 0} → View A
itself {A} = record { Target = A; of = λ x. x; is_itself = true }

-- A reference through this view is the item that it points to.
abbrev pub referenced : {A : Type 0} → View (Bor A)
referenced = view_by (λ y. y.now)

-- The parts of a pair, each through a view of its own.
abbrev pub in_pairs : {A B : Type 0} → View A → View B → View (A × B)
in_pairs v w = record {
  Target = v.Target × w.Target;
  of = λ p. (v.of p.0, w.of p.1);
  is_itself = v.is_itself && w.is_itself;
}

-- An item through a view, with its number.
abbrev pub numbered : {A : Type 0} → View A → View (ℕ × A)
numbered v = in_pairs itself v

-- us is a prefix of xs; if `whole` is true, it is all of xs.
abbrev pub IsPrefix : {A : Type 0} → Bool → List A → List A → Type 0
IsPrefix {A} whole xs us = (more : List A) × (xs ≡ us ++ more) × (whole ≡ true → more ≡ [])

-- For the automatic proof: the trigger at which `grind` finds facts about a source and its list.
unfoldable pub list_trigger : {U A : Type 0} → U → List A → ℕ
list_trigger u xs = 0

module _ {U S A : Type 0} (becomes : U → S → Type 0) (steps : S → Option A → S → Type 0) where
  -- The source u yields the list xs through `view`: so far a prefix of it, and all at the end.
  unfoldable pub Lists : {B : Type 0} → (A → B) → U → List B → Type 0
  Lists view u xs = (it : S) → becomes u it → (whole : Bool) (ys : List A)
      → DrainsIf steps (whole ≡ true) it ys → IsPrefix whole xs (map view ys)

  -- The items that u yields, through `view`, are xs: `Lists` with the trigger that `grind` needs.
  abbrev pub Listed : {B : Type 0} → (A → B) → U → List B → Type 0
  Listed view u xs = (list_trigger u xs ≡ 0) × Lists view u xs

module _ {S A : Type 0} (steps : S → Option A → S → Type 0) where
  -- For the automatic proof: the length, items and folds of a run p of an iterator that yields xs.
  abbrev pub IsPrefixRun : List A → Run steps → Type 0
  IsPrefixRun xs p = (p.len ≤ length xs) × (p.whole ≡ true → p.items ≡ xs)
      × ((h : ℕ → A → ℕ) (n : ℕ) → ((a : ℕ) (x : A) → a ≤ h a x)
      → fold h n p.items ≤ fold h n xs)
      × ((k : ℕ) → k < p.len → p.at k ≡ slice_get xs k)

  -- Each run of the iterator is a prefix of xs.
  abbrev pub YieldsPrefixes : List A → S → Type 0
  YieldsPrefixes xs it = EachRunFrom steps it (λ p. IsPrefixRun xs p)

  -- For the automatic proof: the facts about a run p of an iterator that yields xs through `view`.
  abbrev pub IsPrefixRunThrough : {B : Type 0} → (A → B) → List B → Run steps → Type 0
  IsPrefixRunThrough {B} view xs p = (p.len ≤ length xs) × (p.whole ≡ true → p.len ≡ length xs)
      × ((h : B → ℕ) → p.whole ≡ true → map (λ x. h (view x)) p.items ≡ map h xs)
      × FoldIsAtMost p view xs

  -- Each run of the iterator, through `view`, is a prefix of xs.
  abbrev pub YieldsPrefixesThrough : {B : Type 0} → (A → B) → List B → S → Type 0
  YieldsPrefixesThrough view xs it = EachRunFrom steps it (λ p. IsPrefixRunThrough view xs p)

-- For the automatic proof: the source u becomes the iterator `it`, as a premise met at once.
unfoldable pub Became : {U S : Type 0} → (U → S → Type 0) → U → S → Type 0
Became becomes u it = becomes u it

module _ {U S A : Type 0} (becomes : U → S → Type 0) (steps : S → Option A → S → Type 0) where
  -- P holds for each run of an iterator that the source u becomes.
  abbrev pub EachRunOf : U → (Run steps → Type 0) → Type 0
  EachRunOf u P = (p : Run steps) → Trigger p.len → Became becomes u p.from → P p

  -- P holds for the items of each run of an iterator that the source u becomes.
  abbrev pub EachPrefix : (List A → Type 0) → U → Type 0
  EachPrefix P u = EachRunOf u (λ p. becomes u p.from → P p.items)

  -- The source u yields xs. The facts about its runs serve the automatic proof.
  abbrev pub YieldsItems : U → List A → Type 0
  YieldsItems u xs = Listed becomes steps (λ x. x) u xs
      × ((it : S) → becomes u it → EachRunFrom steps it (λ p. IsPrefixRun steps xs p))
      × EachRunOf u (λ p. IsPrefixRun steps xs p)

  -- The source u yields xs through `view`. The facts about its runs serve the automatic proof.
  abbrev pub YieldsThrough : {B : Type 0} → (A → B) → U → List B → Type 0
  YieldsThrough {B} view u xs = Listed becomes steps view u xs
      × ((it : S) → becomes u it → EachRunFrom steps it (λ p. IsPrefixRunThrough steps view xs p))
      × EachRunOf u (λ p. IsPrefixRunThrough steps view xs p)

-- For the automatic proof: P holds of x, and the equation is a trigger for goals that name x.
abbrev pub Naming : {A : Type 0} → A → (A → Type 0) → Type 0
Naming x P = (x ≡ x) × P x

-- P holds for each list of the source u: for each xs for which `lists u xs` holds.
abbrev pub EachList : {U A : Type 0} → (U → List A → Type 0) → U → (List A → Type 0) → Type 0
EachList {A = A} lists u P = (xs : List A) → lists u xs → (list_trigger u xs ≡ 0) × P xs

-- P holds for each list of the source's items, and through `view`, unless that is `itself`.
abbrev pub EachView : {U A : Type 0} (view : View A)
    → ((view : View A) → U → List view.Target → Type 0) → U
    → ((view : View A) → List view.Target → Type 0) → Type 0
EachView view lists u P = EachList (lists itself) u (P itself)
    × OnFalse view.is_itself (EachList (lists view) u (P view))
