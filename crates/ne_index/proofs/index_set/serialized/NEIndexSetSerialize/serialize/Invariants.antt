use Rattle.serde.proofs.Events.{WritesUpTo}
use Rattle.ne_index.proofs.index_set.serialized.NEIndexSetSerialize.serialize.Given as goal

-- The items before those that are left are written.
abbrev pub invariant-loop-item : goal.invariant-loop-item
invariant-loop-item g l = WritesUpTo g.T.Described.writes l.self.keys l.item-iterator
    (g.S.Serializer.written l.initial.out) (g.S.Serializer.written l.out)
