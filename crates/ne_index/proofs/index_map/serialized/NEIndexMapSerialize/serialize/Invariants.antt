use Rattle.serde.specs.Event.{WritesEntry}
use Rattle.serde.proofs.Events.{WritesUpTo}
use Rattle.ne_index.proofs.index_map.serialized.NEIndexMapSerialize.serialize.Given as goal

-- The entries before those that are left are written.
abbrev pub invariant-loop-key : goal.invariant-loop-key
invariant-loop-key g l = WritesUpTo (WritesEntry g.K.Described.writes g.V.Described.writes)
    l.self.entries l.key-iterator (g.S.Serializer.written l.initial.out)
    (g.S.Serializer.written l.out)
