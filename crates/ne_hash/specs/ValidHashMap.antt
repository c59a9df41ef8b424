-- What the record of an `NEMap` satisfies: the invariant of the type. A caller that owns the map
-- knows it; one that has a reference is told it by a clause `valid`.
use Rattle.std.specs.Prelude.{◌<◌, Bool}
use Rattle.std.specs.HashMap.{HashMap, IsUnique, hash_map_len}

-- The map has a key, and no two keys are equal.
abbrev pub IsValid : {K V S : Type 0} → (K → K → Bool) → HashMap K V S → Type 0
IsValid eq m = (0 < hash_map_len m) × IsUnique eq m
