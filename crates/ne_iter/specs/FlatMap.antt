-- `flat_map`: its parts, and what it yields.
use Rattle.std.specs.Prelude.{◌≡◌, Bool, ◌||◌, List, Option}
use Rattle.std.specs.Bool.{OnFalse}
use Rattle.std.specs.Fn.{Mut, Called}
use Rattle.std.specs.List.{flat_map}
use Rattle.std.specs.Iterator.Adapters.{map_steps, flatten_steps}
use Rattle.std.specs.Iterator.Runs.{EachRunFrom, SomeRun, IsFlatMapRun}
use Rattle.std.specs.declared.iter.Map.{Map as StdMap}
use Rattle.std.specs.declared.iter.Flatten.{Flatten as StdFlatten}
use Rattle.ne_vec.specs.Divisions.{concat}
use Rattle.ne_vec.specs.Lists.{Naming, EachList, View, itself}
use Rattle.ne_iter.specs.declared.iter.flat_map.FlatMap.{FlatMap}
use Rattle.ne_iter.specs.Calls.{Calls}
use Rattle.ne_iter.specs.Flatten.{ReadsEach}

-- The source of a `FlatMap`.
abbrev pub flat_map_source : {I U F : Type 0} → FlatMap I U F → I
flat_map_source s = s.iter

-- The closure.
abbrev pub flat_map_callee : {I U F : Type 0} → FlatMap I U F → F
flat_map_callee s = s.f

module _ {U A : Type 0} (reads : Bool → U → List A → Type 0) where
  -- zs are the lists of the sources that f returned, one after the other.
  pub record IsFlatMapped {W B F : Type 0} (inner : Bool → W → List B → Type 0)
      (calls : Mut F (A × Unit {0}) W) (source : U) (f : F) (whole : Bool) (zs : List B) : Type 0
    where
      pub items : List A
      -- The sources that f returned, and the list that each of them yielded.
      pub sources : List W
      pub lists : List (List B)
      pub f_then : F
      pub read : reads whole source items
      pub called : Calls calls f items sources f_then
      pub read_each : ReadsEach inner whole sources lists
      pub is : zs ≡ concat lists

-- Each call of f with x leaves f unchanged and returns a source of the items of `inner x`.
abbrev pub ReturnsLists : {A W B F : Type 0} → Mut F (A × Unit {0}) W → F
    → (W → List B → Type 0) → (A → List B) → Type 0
ReturnsLists {A} {W} {F = F} calls f lists inner =
    (x : A) (w : W) (g : F) → Called calls f (x, tt) w g → (g ≡ f) × lists w (inner x)

-- `flat_map` yields the lists of the sources that f returns, one after another. `becomes w ys` says
-- that w, a value returned by f, becomes a source that yields the list ys.
abbrev pub SpreadsLists : {U A W B V F : Type 0} → Mut F (A × Unit {0}) W → F
    → (U → List A → Type 0) → (W → List B → Type 0) → (V → List B → Type 0) → U → V → Type 0
SpreadsLists {A = A} {B = B} calls f lists becomes gives u v = EachList lists u (λ xs.
    (inner : A → List B) → Naming (flat_map inner xs) (λ ys.
    ReturnsLists calls f becomes inner → gives v ys))

-- The same through a view of the source's items and one of the items of the inner sources.
abbrev pub SpreadsThrough : {U A W B V F : Type 0} → Mut F (A × Unit {0}) W → F → (view : View A)
    → (inner : View B) → ((view : View A) → U → List view.Target → Type 0)
    → ((inner : View B) → W → List inner.Target → Type 0)
    → ((inner : View B) → V → List inner.Target → Type 0) → U → V → Type 0
SpreadsThrough calls f view inner lists becomes gives u v = EachList (lists view) u (λ xs.
    (h : view.Target → List inner.Target) → Naming (flat_map h xs) (λ ys.
    ReturnsLists calls f (becomes inner) (λ x. h (view.of x)) → gives inner v ys))

-- `flat_map` yields the lists of the sources that f returns, through each view but `itself`; the
-- lists of the items themselves are said by `SpreadsLists`.
abbrev pub SpreadsViews : {U A W B V F : Type 0} → Mut F (A × Unit {0}) W → F → (view : View A)
    → (inner : View B) → ((view : View A) → U → List view.Target → Type 0)
    → ((inner : View B) → W → List inner.Target → Type 0)
    → ((inner : View B) → V → List inner.Target → Type 0) → U → V → Type 0
SpreadsViews calls f view inner lists becomes gives u v =
    OnFalse view.is_itself (SpreadsThrough calls f view itself lists becomes gives u v)
    × OnFalse inner.is_itself (SpreadsThrough calls f itself inner lists becomes gives u v)
    × OnFalse (view.is_itself || inner.is_itself)
    (SpreadsThrough calls f view inner lists becomes gives u v)

-- A run of what `flat_map` yields is made of runs of the sources that the closure returns.
abbrev pub FlatMapsRuns : {S A W J B F : Type 0} → (S → Option A → S → Type 0)
    → (W → J → Type 0) → (J → Option B → J → Type 0) → Mut F (A × Unit {0}) W → F → S
    → StdFlatten (StdMap S F) J → Type 0
FlatMapsRuns steps becomes inner calls f source it =
    EachRunFrom (flatten_steps (map_steps steps calls) becomes inner) it (λ p.
    SomeRun steps source (λ q. IsFlatMapRun p q inner calls f becomes))
