-- What was read when a sequence or a map that is not empty began. `gives` and `stays` are the
-- format's: it read an event, or it peeked at what comes next.
use Rattle.std.specs.Prelude.{List, ℕ, None}
use Rattle.serde.specs.Event.{Event, seq_begins, map_begins, key_begins}
use Rattle.serde.specs.Steps.{Gives, Stays}
use Rattle.serde.specs.declared.deserializer.Deserializer.{Deserializer}

-- A sequence began, and an item of it came.
abbrev pub BeginsSeq : {F E M : Type 0} → (F → List ℕ → Event → F → Type 0) → (F → F → Type 0)
    → Deserializer F E M → Deserializer F E M → Type 0
BeginsSeq {F} {E} {M} gives stays old new = (begun : Deserializer F E M)
    × Gives gives old (seq_begins None) begun × Stays stays begun new

-- A map began, and a key of it came.
abbrev pub BeginsMap : {F E M : Type 0} → (F → List ℕ → Event → F → Type 0)
    → Deserializer F E M → Deserializer F E M → Type 0
BeginsMap {F} {E} {M} gives old new = (begun : Deserializer F E M)
    × Gives gives old (map_begins None) begun × Gives gives begun key_begins new
