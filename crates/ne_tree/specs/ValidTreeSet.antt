-- What the record of an `NEBTreeSet` satisfies: the invariant of the type. A caller that owns the
-- set knows it; one that has a reference is told it by a clause `valid`.
use Rattle.std.specs.Prelude.{◌<◌}
use Rattle.std.specs.BTreeSet.{BTreeSet, IsOrdered, btree_set_len}
use Rattle.std.specs.declared.cmp.Ordering.{Ordering}

-- The set has an item, and the items ascend.
abbrev pub IsValid : {T : Type 0} → (T → T → Ordering) → BTreeSet T → Type 0
IsValid cmp s = (0 < btree_set_len s) × IsOrdered cmp s
