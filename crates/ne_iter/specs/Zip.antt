-- `zip`: its parts, and what it yields.
use Rattle.std.specs.Prelude.{◌≡◌, Bool, true, ◌||◌, List, length, IsTrue, Option}
use Rattle.std.specs.Bool.{OnFalse}
use Rattle.std.specs.List.{zip}
use Rattle.std.proofs.Common.{inl, inr}
use Rattle.std.specs.Iterator.Adapters.{zip_first as std_zip_first, zip_second as std_zip_second}
use Rattle.std.specs.Iterator.Adapters.{zip_steps}
use Rattle.std.specs.declared.iter.Zip.{Zip as StdZip}
use Rattle.ne_vec.specs.Lists.{View, in_pairs, itself, Naming, EachList}
use Rattle.ne_iter.specs.declared.iter.zip.Zip.{Zip}
use Rattle.ne_iter.specs.Sources.{HasFirst}

-- The source of the first items of the pairs.
abbrev pub zip_first : {A B : Type 0} → Zip A B → A
zip_first s = s.a

-- The source of the second ones.
abbrev pub zip_second : {A B : Type 0} → Zip A B → B
zip_second s = s.b

module _ {U A : Type 0} (reads : Bool → U → List A → Type 0) where
  -- ps are pairs of an item of each side. If `whole` is true, one of the sides has ended.
  pub record IsZipped {W B : Type 0} (others : Bool → W → List B → Type 0) (source : U) (other : W)
      (whole : Bool) (ps : List (A × B)) : Type 0 where
    pub items : List A
    pub other_items : List B
    pub ended : Bool
    pub other_ended : Bool
    pub read : reads ended source items
    pub read_other : others other_ended other other_items
    pub is : ps ≡ zip items other_items
    pub as_many : length items ≡ length other_items
    pub one_ended : whole ≡ true → IsTrue (ended || other_ended)

-- `zip` yields the pairs of the items of two lists. The second is stated for the second source
-- itself, or for the source that it becomes.
abbrev pub PairsOf : {U W A B : Type 0} → (U → List A → Type 0) → (W → List B → Type 0)
    → (W → List B → Type 0) → U → W → (List (A × B) → Type 0) → Type 0
PairsOf {A = A} {B = B} lists others becomes u w gives =
    EachList lists u (λ xs. EachList others w (λ ys. gives (zip xs ys)))
    × ((xs : List A) (ys : List B)
    → Naming (zip xs ys) (λ ps. lists u xs → becomes w ys → gives ps))

-- `zip` yields the pairs of the items of two lists, each of them also through a view.
abbrev pub ZipsLists : {U W V A B : Type 0} (view : View A) (other_view : View B)
    → ((view : View A) → U → List view.Target → Type 0)
    → ((view : View B) → W → List view.Target → Type 0)
    → ((view : View B) → W → List view.Target → Type 0) → (V → List (A × B) → Type 0)
    → ((view : View (A × B)) → V → List view.Target → Type 0) → U → W → V → Type 0
ZipsLists view other_view lists others becomes yields_items yields_through u w v =
    PairsOf (lists itself) (others itself) (becomes itself) u w (yields_items v)
    × OnFalse view.is_itself (PairsOf (lists view) (others itself) (becomes itself) u w
    (yields_through (in_pairs view itself) v))
    × OnFalse other_view.is_itself
    (PairsOf (lists itself) (others other_view) (becomes other_view) u w
    (yields_through (in_pairs itself other_view) v))
    × OnFalse (view.is_itself || other_view.is_itself)
    (PairsOf (lists view) (others other_view) (becomes other_view) u w
    (yields_through (in_pairs view other_view) v))

-- Two sources that both have a first item, side by side.
pub HasFirst-zip : {S T A B : Type 0} (steps : S → Option A → S → Type 0)
    (others : T → Option B → T → Type 0) (z : StdZip S T)
    → HasFirst steps (std_zip_first z) → HasFirst others (std_zip_second z)
    → HasFirst (zip_steps steps others) z
HasFirst-zip steps others z a b t (inl h) = a h.0 h.1
HasFirst-zip steps others z a b t (inr h) = b h.0 h.1
