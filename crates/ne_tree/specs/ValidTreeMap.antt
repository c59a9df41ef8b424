-- What the record of an `NEBTreeMap` satisfies: the invariant of the type. A caller that owns the
-- map knows it; one that has a reference is told it by a clause `valid`.
use Rattle.std.specs.Prelude.{◌<◌}
use Rattle.std.specs.BTreeMap.{BTreeMap, IsOrdered, btree_map_len}
use Rattle.std.specs.declared.cmp.Ordering.{Ordering}

-- The map has a key, and the keys ascend.
abbrev pub IsValid : {K V : Type 0} → (K → K → Ordering) → BTreeMap K V → Type 0
IsValid cmp m = (0 < btree_map_len m) × IsOrdered cmp m
