-- The entries that an iterator over a non-empty map or set has left, and the list that it yields as
-- a source. The value of std's iterators is the list of the entries that they have left.
use Rattle.std.specs.Prelude.{◌≡◌, ◌^◌, ◌<◌, ℕ, List, Option, IfSome, Some, length, slice_get}
use Rattle.std.specs.Map.Iter.{GivesInOrder, ShowsInOrder, TakesFirst, deref}
use Rattle.ne_vec.specs.Lists.{Listed}

-- The facts about an iterator whose items, through `view`, are the entries es, fewer than 2 ^ k.
abbrev pub KnownByReference : {A X : Type 0} → ℕ → (A → X) → List X → Type 0
KnownByReference k view es = (length es < 2 ^ k) × ShowsInOrder view

-- The facts about an iterator by value whose items are the entries es.
abbrev pub KnownByValue : {X : Type 0} → List X → Type 0
KnownByValue {X} es = (length es < 2 ^ 63) × GivesInOrder X

-- The iterator has the entries es left, at least one, and `known` holds of them.
abbrev pub IteratesKnown : {X : Type 0} → (List X → Type 0) → List X → List X → Type 0
IteratesKnown known es it = (0 < length es) × (it ≡ es) × known es

-- The iterator by reference has the entries es left, at least one.
abbrev pub IteratesEntries : {A X : Type 0} → (A → X) → List X → List X → Type 0
IteratesEntries view = IteratesKnown (KnownByReference 63 view)

-- The iterator by value has the entries es left, at least one.
abbrev pub IteratesEntriesByValue : {X : Type 0} → List X → List X → Type 0
IteratesEntriesByValue = IteratesKnown KnownByValue

-- The iterator w is a source of items that are the entries es through `view`.
abbrev pub ListsEntries : {A X : Type 0} → (A → X) → List X → List X → Type 0
ListsEntries view w es = Listed (IteratesEntries view) (TakesFirst view) view w es

-- The iterator w over a union of two sets is a source of references to the items xs. A union may be
-- longer than a set, so they are fewer than 2 ^ 64, and not 2 ^ 63.
abbrev pub ListsUnion : {X : Type 0} → List X → List X → Type 0
ListsUnion w xs = Listed (IteratesKnown (KnownByReference 64 deref)) (TakesFirst deref) deref w xs

-- The iterator w by value, of which `known` holds, is a source of the entries es.
abbrev pub ListsEntriesByValue : {X : Type 0} → (List X → Type 0) → List X → List X → Type 0
ListsEntriesByValue {X} known w es = Listed (IteratesKnown known) (TakesFirst (λ (x : X). x))
    (λ x. x) w es

-- `value` is what a map has at each key. The entry at each place has its value at its key.
abbrev pub FindsEach : {K V : Type 0} → (K → Option V) → List (K × V) → Type 0
FindsEach value es = (i : ℕ) → IfSome (slice_get es i) (λ e. value e.0 ≡ Some e.1)
