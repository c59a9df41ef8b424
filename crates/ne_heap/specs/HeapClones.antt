-- When the items of a heap are clones of those of another.
use Rattle.std.specs.Prelude.{◌≡◌, List, length}
use Rattle.std.specs.List.{AllZip}
use Rattle.std.specs.List.Sorted.{IsPermutation}
use Rattle.ne_heap.specs.HeapItems.{SameItems}

-- ys holds a clone of each item of xs, in any order. If every clone equals its original, ys has the
-- items of xs.
abbrev pub IsCloneOfItems : {X : Type 0} → (X → X → Type 0) → List X → List X → Type 0
IsCloneOfItems {X} clones xs ys =
    ((made : List X) × AllZip clones xs made × IsPermutation made ys) × (length ys ≡ length xs)
    × (((x y : X) → clones x y → y ≡ x) → SameItems xs ys)
