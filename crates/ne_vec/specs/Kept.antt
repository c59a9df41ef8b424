-- The items that `retain`, `dedup_by` and their variants keep, and when their closures are pure.
use Rattle.std.specs.Prelude.{◌≡◌, Bool, Result, Ok, Err, List, slice_get}
use Rattle.std.specs.Borrow.{MutBor}
use Rattle.std.specs.Fn.{CalledAtMut, CalledAtPairMut, ComparesKeys}
use Rattle.std.specs.Global.{Vec}
use Rattle.ne_vec.specs.Divisions.{by_first, heads, runs_of}
use denote.Param.Members.{Mut}

-- The items that are returned, in a non-empty vector or in the empty one.
abbrev pub kept_items : {X : Type 0} → Result (List X) (Vec X) → List X
kept_items (Ok v) = v
kept_items (Err v) = v.items

-- Each call of f with a `&mut` to x returns h x, leaves w x there, and leaves f unchanged.
abbrev pub ActsAsAtMut : {F X R : Type 0} → Mut F (MutBor X × Unit {0}) (R × (MutBor X × Unit {0}))
    → F → (X → R) → (X → X) → Type 0
ActsAsAtMut {F} {X} {R} g f h w = (x : X) (r : R) (f' : F) (x' : X) → CalledAtMut g f x r f' x'
    → (f' ≡ f) × (r ≡ h x) × (x' ≡ w x)

-- Each call of f with `&mut`s to x and y returns h x y, and leaves x, y and f unchanged.
abbrev pub ActsAsAtPairMut : {F X : Type 0} → Mut F (MutBor X × (MutBor X × Unit {0}))
    (Bool × (MutBor X × (MutBor X × Unit {0}))) → F → (X → X → Bool) → Type 0
ActsAsAtPairMut {F} {X} g f h = (x y : X) (r : Bool) (f' : F) (x' y' : X)
    → CalledAtPairMut g f x y r f' x' y' → (f' ≡ f) × (r ≡ h x y) × (x' ≡ x) × (y' ≡ y)

-- Each call of f for the key of y, and then for that of x, finds keys that are `eq` exactly if
-- `same x y` is true, and leaves x, y and f unchanged.
abbrev pub ComparesKeysAs : {F X K : Type 0}
    → Mut F (MutBor X × Unit {0}) (K × (MutBor X × Unit {0})) → (K → K → Bool) → F
    → (X → X → Bool) → Type 0
ComparesKeysAs {F} {X} g eq f same = (x y : X) (r : Bool) (f' : F) (y' x' : X)
    → ComparesKeys g eq f y x r f' y' x' → (f' ≡ f) × (r ≡ same x y) × (y' ≡ y) × (x' ≡ x)

-- ys are the first items of the runs of xs; an item continues a run if `same first item` is true.
-- So the first item of ys is that of xs.
abbrev pub KeepsFirsts : {X : Type 0} → (X → X → Bool) → List X → List X → Type 0
KeepsFirsts same xs ys = (ys ≡ heads (runs_of by_first same xs))
    × (slice_get ys 0 ≡ slice_get xs 0)
