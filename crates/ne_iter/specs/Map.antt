-- `map`: its parts, and what it yields.
use Rattle.std.specs.Prelude.{◌≡◌, ℕ, Bool, List, Option, map, true}
use Rattle.std.specs.Fn.{Called, Mut}
use Rattle.std.specs.List.{flat_map, join_by}
use Rattle.std.specs.Iterator.Adapters.{map_steps}
use Rattle.std.specs.Iterator.Runs.{EachRunFrom, SomeRun, IsMapRun}
use Rattle.std.specs.declared.iter.Map.{Map as StdMap}
use Rattle.ne_iter.specs.declared.iter.map.Map.{Map}
use Rattle.ne_vec.specs.Lists.{Naming, View}
use Rattle.ne_iter.specs.Calls.{Calls}

-- The source of a `Map`.
abbrev pub map_source : {I F : Type 0} → Map I F → I
map_source s = s.iter

-- The closure.
abbrev pub map_callee : {I F : Type 0} → Map I F → F
map_callee s = s.f

module _ {U A : Type 0} (reads : Bool → U → List A → Type 0) where
  -- ys are the results of f, called with the source's items in order.
  pub record IsMapped {B F : Type 0} (calls : Mut F (A × Unit {0}) B) (source : U) (f : F)
      (whole : Bool) (ys : List B) : Type 0 where
    pub items : List A
    pub f_then : F
    pub read : reads whole source items
    pub called : Calls calls f items ys f_then

-- Each run of the adapter `it` has a run of `source` of which it is the map.
abbrev pub MapsRuns : {S A B F : Type 0} → (S → Option A → S → Type 0) → Mut F (A × Unit {0}) B
    → F → S → StdMap S F → Type 0
MapsRuns steps calls f source it = EachRunFrom (map_steps steps calls) it (λ p.
    SomeRun steps source (λ q. IsMapRun p q calls f))

-- Each call of f with x leaves f unchanged and returns a value that `out` takes to h x.
abbrev pub ActsThrough : {A B F W : Type 0} → Mut F (A × Unit {0}) B → F → (B → W) → (A → W)
    → Type 0
ActsThrough {A} {B} {F} calls f out h =
    (x : A) (y : B) (g : F) → Called calls f (x, tt) y g → (g ≡ f) × (out y ≡ h x)

-- A closure that returns references has no function h to act as: other references to an equal value
-- are not equal. Through `out`, what they point to, its results have one.
-- The items of a whole run of `map`, through `out`, are the values of h at the items of xs. W is
-- `ℕ` or `List ℕ`, as a clause cannot say "for each type".
abbrev pub MapsTo : {A B F V T : Type 0} (W : Type 0) → Mut F (A × Unit {0}) B → F
    → (V → T → Type 0) → (T → Option B → T → Type 0) → V → (view : View A) → List view.Target
    → Type 0
MapsTo {B = B} {T = T} W calls f made next v view xs = (it : T) → made v it
    → EachRunFrom next it (λ p. (h : view.Target → W) → Naming (map h xs) (λ ys.
    (out : B → W) → p.whole ≡ true → ActsThrough calls f out (λ x. h (view.of x))
    → map out p.items ≡ ys))

-- For texts: the items of a whole run of `map`, through `out`, one after another, are those of h at
-- the items of xs; so are they with a separator between each two.
abbrev pub MapsToTexts : {A B F V T : Type 0} → Mut F (A × Unit {0}) B → F → (V → T → Type 0)
    → (T → Option B → T → Type 0) → V → (view : View A) → List view.Target → Type 0
MapsToTexts {B = B} {T = T} calls f made next v view xs = (it : T) → made v it
    → EachRunFrom next it (λ p. ((h : view.Target → List ℕ) → Naming (flat_map h xs) (λ text.
    (out : B → List ℕ) → p.whole ≡ true → ActsThrough calls f out (λ x. h (view.of x))
    → flat_map out p.items ≡ text))
    × ((h : view.Target → List ℕ) (separator : List ℕ) → Naming (join_by h separator xs) (λ text.
    (out : B → List ℕ) → p.whole ≡ true → ActsThrough calls f out (λ x. h (view.of x))
    → join_by out separator p.items ≡ text)))

-- What `map` says of a closure that returns references: to numbers, to lists and to texts. A source
-- of values needs only the clause `lists`.
abbrev pub MapsThrough : {A B F V T : Type 0} → Mut F (A × Unit {0}) B → F → (V → T → Type 0)
    → (T → Option B → T → Type 0) → V → (view : View A) → List view.Target → Type 0
MapsThrough calls f made next v view xs = MapsTo ℕ calls f made next v view xs
    × MapsTo (List ℕ) calls f made next v view xs × MapsToTexts calls f made next v view xs
