-- The law that the implementation for `ValuesMut` of tree maps uses: if a value is left, the first
-- call returns an item.
use Rattle.std.proofs.Common.{arith, ◌<◌, length}
use Rattle.std.specs.BTreeMap.IterMut.{values_mut_rest, values_mut_steps}
use Rattle.std_collections.specs.declared.btree_map.iter.lent.ValuesMut.{ValuesMut}
use Rattle.ne_iter.specs.Sources.{HasFirst}

pub HasFirst-values_mut : {K X : Type 0} (it : ValuesMut K X) → 0 < length (values_mut_rest it)
    → HasFirst (values_mut_steps {K = K} {X = X}) it
HasFirst-values_mut it some t ended = omega (arith, some, ended)
