-- The value of a vector after a mutable borrow of its items has ended.
use Rattle.std.specs.Prelude.{ℕ, List, length, slice_set, Option}
use Rattle.std.specs.Borrow.{Lends, LendsIf, follows, Fml, RattleType, MutBor, Array}
use Rattle.std.specs.List.{refill}
use Rattle.std.specs.Slice.Iter.{iter_mut_name}
use Rattle.std.specs.declared.slice.IterMut.{IterMut as StdIterMut}
use Rattle.ne_vec.specs.declared.vector.iter.IterMut.{IterMut}
use Rattle.ne_vec.specs.contracts.vector.NEVec.{the_row}

-- Std's iterator that an `IterMut` of this crate holds and becomes.
abbrev pub std_iterator : {X : Type 0} → IterMut X → StdIterMut X
std_iterator w = w.inner

module _ (T : RattleType) (v : MutBor (List T.Denot)) where
  -- Place i has what was last written through r, and the other places are unchanged.
  abbrev pub LendsItem : ℕ → MutBor T.Denot → Fml
  LendsItem i r = Lends (the_row T) T v r (slice_set v.now i)

  -- If r is `Some`, place i has what was last written through r; the other places are unchanged.
  abbrev pub LendsItemIf : ℕ → Option (MutBor T.Denot) → Fml
  LendsItemIf i r = LendsIf (the_row T) T v r (slice_set v.now i) v.now

  -- The items are the last value of r, which has the same length.
  abbrev pub LendsItems : MutBor (List T.Denot) → Fml
  LendsItems r = Lends (the_row T) (Array T 0) v r (refill (length v.now) v.now)

  -- The items are those that the iterator left, and the length is the same.
  abbrev pub LendsIterator : StdIterMut T.Denot → Fml
  LendsIterator it = follows (the_row T) (Array T 0) v.ghost_name (iter_mut_name it)
      (refill (length v.now) v.now)
