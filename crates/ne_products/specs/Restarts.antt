-- For `cartesian_product`: what is required of its second source, which is iterated over once for
-- each row, and the pairs that are then yielded. It becomes an iterator j, and a row is read from j
-- or from a clone of a clone of j.
use Rattle.std.specs.Prelude.{◌≡◌, ◌≤◌, Bool, Contains, List, Option, Result, Ok, map}
use Rattle.std.specs.Iterator.{Count, size}
use Rattle.std.specs.Prelude.{◌⊎◌}
use Rattle.std.specs.declared.alloc.AllocError.{AllocError}
use Rattle.ne_vec.specs.Lists.{Listed, EachList, Naming}
use Rattle.ne_iter.specs.Collected.{values_or_first_err}
use Rattle.ne_products.specs.Pairs.{cartesian_product, IsProduct}

-- Each clone of an iterator that u becomes is one that u becomes too, with no more items left.
abbrev pub ClonesAgain : {U J : Type 0} → (U → J → Type 0) → (J → Count) → (J → J → Type 0) → U
    → Type 0
ClonesAgain {J = J} becomes left copies u = (j c : J) → becomes u j → copies j c
    → becomes u c × (size (left c) ≤ size (left j))

-- Clones of an iterator that the source u becomes never fail.
abbrev pub NeverRefuses : {U J : Type 0} → (U → J → Type 0) → (J → Type 0) → U → Type 0
NeverRefuses {J = J} becomes certain u = (j : J) → becomes u j → certain j

-- Clones of the items of xs never fail, and equal their originals.
abbrev pub HasExactClones : {A : Type 0} → (A → A → Type 0) → (A → Type 0) → List A → Type 0
HasExactClones {A} clones infallible xs = (x : A) → Contains xs x
    → infallible x × ((y : A) → clones x y → y ≡ x)

-- i is the iterator j, or a clone of a clone of j.
abbrev pub RestartsFrom : {J : Type 0} → (J → J → Type 0) → J → J → Type 0
RestartsFrom {J} copies j i = (i ≡ j) ⊎ ((c : J) × copies j c × copies c i)

-- `cartesian_product` yields the pairs of the source's items, each with the items of its row.
abbrev pub YieldsPairs : {U J V A B E : Type 0} → (Bool → U → List A → Type 0) → Type 0
    → (J → Type 0) → (Bool → J → List B → Type 0) → (J → J → Type 0) → (A → A → Type 0)
    → (A → Type 0) → Type 0 → (Bool → V → List (Result (A × B) E) → Type 0) → U → V → Type 0
YieldsPairs {J = J} {A = A} {B = B} {E = E} reads again begins reads_row copies clones infallible
    refused paired source result =
    again → (whole : Bool) (zs : List (Result (A × B) E)) → paired whole result zs
    → (j : J) × begins j × IsProduct reads reads_row (RestartsFrom copies j) clones infallible
    refused source whole zs

-- For the automatic proof: the list of the product v of xs and ys, if `exact` holds for xs.
abbrev pub PairsListed : {V T A B : Type 0} → (V → T → Type 0)
    → (T → Option (Result (A × B) AllocError) → T → Type 0) → (List A → Type 0) → V → List A
    → List B → Type 0
PairsListed {A = A} {B = B} made next exact v xs ys = exact xs
    → (values_or_first_err {E = AllocError} (map Ok (cartesian_product xs ys))
    ≡ Ok (cartesian_product xs ys))
    × Listed made next (λ x. x) v (map Ok (cartesian_product xs ys))

-- For the automatic proof: `gives` holds for the lists of u and of w, which no call may mention.
abbrev pub PairsLists : {U W A B : Type 0} → (U → List A → Type 0) → (W → List B → Type 0)
    → (W → List B → Type 0) → (List A → List B → Type 0) → U → W → Type 0
PairsLists {A = A} {B = B} lists others meets gives u w =
    EachList lists u (λ xs. EachList others w (λ ys. gives xs ys))
    × ((xs : List A) (ys : List B)
    → Naming (cartesian_product xs ys) (λ _. lists u xs → meets w ys → gives xs ys))
