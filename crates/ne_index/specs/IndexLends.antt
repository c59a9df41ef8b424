-- What an `NEIndexMap` holds after a mutable borrow of its values ends, for the methods that lend
-- them, such as `iter_mut` and `get_mut`.
use Rattle.std.specs.declared.hash.BuildHasher as builder
use Rattle.std.specs.declared.hash.Hasher as hasher
use Rattle.std.specs.Prelude.{◌≡◌, ℕ, Bool, Option, Result, Some}
use Rattle.std.specs.Borrow.{Array, Fml, GName, MutBor, RattleType, Lends, LendsSo, LendsSoOk}
use Rattle.std.specs.Borrow.{follows}
use Rattle.std.specs.HashMap.Lent.{HashMembers}
use Rattle.indexmap.specs.IndexMap.{IndexMap, hasher_of, with_value_at, IsUnchanged, Updates}
use Rattle.indexmap.specs.IndexMap.{with_values, WritesThrough}
use Rattle.indexmap.specs.declared.map.iter_mut.IterMut.{IterMut as InnerIterMut}
use Rattle.indexmap.specs.declared.map.iter_mut.ValuesMut.{ValuesMut as InnerValuesMut}
use Rattle.ne_index.specs.declared.index_map.iter.IterMut.{IterMut}
use Rattle.ne_index.specs.declared.index_map.iter.ValuesMut.{ValuesMut}
use Rattle.ne_index.specs.contracts.index_map.NEIndexMap.{the_row}
use Rattle.ne_index.specs.Puts.{put_entry}

-- The iterator of `indexmap` that an `IterMut` holds and becomes.
abbrev pub inner_iterator : {K V : Type 0} → IterMut K V → InnerIterMut K V
inner_iterator w = w.inner

-- The iterator of `indexmap` that a `ValuesMut` holds and becomes.
abbrev pub inner_values_iterator : {K V : Type 0} → ValuesMut K V → InnerValuesMut K V
inner_values_iterator w = w.inner

module _ (K V S H : RattleType) (key : HashMembers K.Denot)
    (build : builder.Ghosts S.Denot H.Denot) (hash : hasher.Ghosts H.Denot) where
  -- The type of the map in the logic.
  abbrev pub map_row : RattleType
  map_row = the_row K V S H (record { eq = key.eq }) (record { hash_input = key.hash_input }) build
      hash

  -- After the borrow, m has its old keys, with the values that the loan named r ends at.
  abbrev pub LendsValues : MutBor (IndexMap K.Denot V.Denot S.Denot) → GName → Fml
  LendsValues m r = follows map_row (Array V 0) m.ghost_name r (with_values m.now)

  -- After the borrow, m has at the key that passes the test the value last written through r. If r
  -- is `None`, m is unchanged.
  abbrev pub LendsValue : MutBor (IndexMap K.Denot V.Denot S.Denot) → (K.Denot → Bool)
      → Option (MutBor V.Denot) → Fml
  LendsValue m test r = LendsSo map_row V m r (λ n w. WritesThrough key.eq test m.now w n)
      (λ n. n ≡ m.now)

  -- After the borrow, the entry of m at the index i has the value last written through r.
  abbrev pub LendsValueAt : MutBor (IndexMap K.Denot V.Denot S.Denot) → ℕ → MutBor V.Denot → Fml
  LendsValueAt m i r = Lends map_row V m r (with_value_at m.now i)

  -- After the borrow, m has k inserted with the value last written through r. An `Err` leaves m.
  abbrev pub LendsInserted : {E : Type 0} → MutBor (IndexMap K.Denot V.Denot S.Denot) → K.Denot
      → Result (MutBor V.Denot) E → Fml
  LendsInserted m k r = LendsSoOk map_row V m r
      (λ n w. (n.entries ≡ put_entry key.eq m.now.entries k w)
      × Updates key.eq m.now n k (Some w) × (hasher_of n ≡ hasher_of m.now))
      (IsUnchanged m.now)
