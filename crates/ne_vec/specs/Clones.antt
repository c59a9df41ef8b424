-- When a list is a clone of another.
use Rattle.std.specs.Prelude.{◌≡◌, List, length}
use Rattle.std.specs.List.{AllZip}

-- ys holds a clone of each item of xs, in order; if every clone equals its original, ys is xs.
abbrev pub IsCloneOfList : {X : Type 0} → (X → X → Type 0) → List X → List X → Type 0
IsCloneOfList {X} clones xs ys =
    AllZip clones xs ys × (length ys ≡ length xs) × (((x y : X) → clones x y → y ≡ x) → ys ≡ xs)
