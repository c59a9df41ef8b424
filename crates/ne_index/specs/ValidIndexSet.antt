-- What the record of an `NEIndexSet` satisfies: the invariant of the type. A caller that owns the
-- set knows it; one that has a reference is told it by a clause `valid`.
use Rattle.std.specs.Prelude.{◌<◌, Bool}
use Rattle.indexmap.specs.IndexSet.{IndexSet, IsUnique, index_set_len}

-- The set has an item, and no two items are equal.
abbrev pub IsValid : {T S : Type 0} → (T → T → Bool) → IndexSet T S → Type 0
IsValid eq s = (0 < index_set_len s) × IsUnique eq s
