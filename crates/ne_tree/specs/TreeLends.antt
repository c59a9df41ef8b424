-- What an `NEBTreeMap` holds after a mutable borrow of its values ends, for the methods that lend
-- them, such as `iter_mut` and `get_mut`, and the functions that these call.
use Rattle.std.specs.contracts.alloc.Global as global
use Rattle.std.specs.Prelude.{◌≡◌, Option}
use Rattle.std.specs.Borrow.{Fml, GName, RattleType, MutBor, LendsSo, follows}
use Rattle.std.specs.contracts.impls.GlobalAllocator.TheImpl.{ghosts}
use Rattle.std.specs.declared.cmp.Ordering.{Ordering}
use Rattle.std.specs.BTreeMap.{BTreeMap, WritesThrough, values}
use Rattle.std.specs.BTreeMap.Lent.{OrdMembers, with_values, map_row as row_of}
use Rattle.std_collections.specs.declared.btree_map.iter.lent.IterMut.{IterMut as StdIterMut}
use Rattle.std_collections.specs.declared.btree_map.iter.lent.ValuesMut.{ValuesMut as StdValuesMut}
use Rattle.ne_tree.specs.declared.btree_map.iter.IterMut.{IterMut}
use Rattle.ne_tree.specs.declared.btree_map.iter.ValuesMut.{ValuesMut}
use Rattle.ne_tree.specs.contracts.btree_map.NEBTreeMap.{the_row}

-- The std iterator that an `IterMut` holds and becomes.
abbrev pub std_iterator : {K V : Type 0} → IterMut K V → StdIterMut K V
std_iterator w = w.inner

-- The std iterator that a `ValuesMut` holds and becomes.
abbrev pub std_values_iterator : {K V : Type 0} → ValuesMut K V → StdValuesMut K V
std_values_iterator w = w.inner

module _ (K V : RattleType) (key : OrdMembers K.Denot) where
  -- The type of the map in the logic.
  abbrev pub map_row : RattleType
  map_row = the_row K V (record { cmp = key.cmp }) (record { eq = key.eq })
      (record { partial_cmp = key.partial_cmp })

  -- The type of the inner map in the logic.
  abbrev pub inner_row : RattleType
  inner_row = row_of K V global.the_row key ghosts

  -- After the borrow, m has its old keys, with the values that the loan named r ends at.
  abbrev pub LendsValues : MutBor (BTreeMap K.Denot V.Denot) → GName → Fml
  LendsValues m r = follows map_row map_row m.ghost_name r (λ n. with_values m.now 0 (values n))

  -- After the borrow, the inner map m has its old keys, with the values that r ends at.
  abbrev pub LendsValuesInside : MutBor (BTreeMap K.Denot V.Denot) → GName → Fml
  LendsValuesInside m r = follows inner_row inner_row m.ghost_name r
      (λ n. with_values m.now 0 (values n))

  -- After the borrow, m has at the key that compares as equal the value last written through r. If
  -- r is `None`, m is unchanged.
  abbrev pub LendsValue : MutBor (BTreeMap K.Denot V.Denot) → (K.Denot → Ordering)
      → Option (MutBor V.Denot) → Fml
  LendsValue m order r = LendsSo map_row V m r (λ n w. WritesThrough key.cmp order m.now w n)
      (λ n. n ≡ m.now)
