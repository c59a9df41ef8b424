-- What an `NEMap` holds after a mutable borrow of its values ends, for the methods that lend them,
-- such as `iter_mut` and `get_mut`.
use Rattle.std.specs.declared.hash.BuildHasher as builder
use Rattle.std.specs.declared.hash.Hasher as hasher
use Rattle.std.specs.Prelude.{◌≡◌, Bool, Option}
use Rattle.std.specs.Borrow.{Array, Fml, GName, MutBor, RattleType, LendsSo, follows}
use Rattle.std.specs.HashMap.{HashMap, WritesThrough}
use Rattle.std.specs.HashMap.Lent.{HashMembers, with_values}
use Rattle.std_collections.specs.declared.hash_map.iter.lent.IterMut.{IterMut as StdIterMut}
use Rattle.std_collections.specs.declared.hash_map.iter.lent.ValuesMut.{ValuesMut as StdValuesMut}
use Rattle.ne_hash.specs.declared.map.iter.IterMut.{IterMut}
use Rattle.ne_hash.specs.declared.map.iter.ValuesMut.{ValuesMut}
use Rattle.ne_hash.specs.contracts.map.NEMap.{the_row}

-- The std iterator that an `IterMut` holds and becomes.
abbrev pub std_iterator : {K V : Type 0} → IterMut K V → StdIterMut K V
std_iterator w = w.inner

-- The std iterator that a `ValuesMut` holds and becomes.
abbrev pub std_values_iterator : {K V : Type 0} → ValuesMut K V → StdValuesMut K V
std_values_iterator w = w.inner

module _ (K V S H : RattleType) (key : HashMembers K.Denot)
    (build : builder.Ghosts S.Denot H.Denot) (hash : hasher.Ghosts H.Denot) where
  -- The type of the map in the logic.
  abbrev pub map_row : RattleType
  map_row = the_row K V S H (record { eq = key.eq }) (record { hash_input = key.hash_input }) build
      hash

  -- After the borrow, m has its old keys, with the values that the loan named r ends at.
  abbrev pub LendsValues : MutBor (HashMap K.Denot V.Denot S.Denot) → GName → Fml
  LendsValues m r = follows map_row (Array V 0) m.ghost_name r (with_values m.now)

  -- After the borrow, m has at the key that passes the test the value last written through r. If r
  -- is `None`, m is unchanged.
  abbrev pub LendsValue : MutBor (HashMap K.Denot V.Denot S.Denot) → (K.Denot → Bool)
      → Option (MutBor V.Denot) → Fml
  LendsValue m test r = LendsSo map_row V m r (λ n w. WritesThrough key.eq test m.now w n)
      (λ n. n ≡ m.now)
