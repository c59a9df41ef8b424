-- The clause of `extend` of a map or a set about the list that its source yields.
use Rattle.std.specs.Prelude.{◌++◌, List}
use Rattle.ne_vec.specs.Lists.{EachList, Naming}

-- The old items, followed by those that the source yields, make the new value. `meets` is for a
-- source whose list is stated by no clause of this crate.
abbrev pub ExtendsByList : {U A : Type 0} → (U → List A → Type 0) → (U → List A → Type 0) → U
    → List A → (List A → Type 0) → Type 0
ExtendsByList {A = A} lists meets u old makes = EachList lists u (λ xs. makes (old ++ xs))
    × ((xs : List A) → Naming (old ++ xs) (λ ys. meets u xs → makes ys))
