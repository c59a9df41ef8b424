-- Proofs, for the implementations, that iterators over non-empty lists, chunks and runs yield an
-- item first.
use Rattle.std.proofs.Common.{arith, ap}
use Rattle.std.specs.Prelude.{◌≡◌, ◌<◌, Bool, List, length}
use Rattle.std.specs.Borrow.{Bor}
use Rattle.std.specs.Fn.{Shared}
use Rattle.std.specs.Slice.Iter.{iter_steps, iter_mut_steps, iter_mut_rest}
use Rattle.std.specs.Vec.Iter.{into_iter_steps}
use Rattle.std.specs.Iterator.{YieldsFirst}
use Rattle.std.specs.declared.slice.Iter.{Iter}
use Rattle.std.specs.declared.slice.IterMut.{IterMut}
use Rattle.std.specs.declared.vec.IntoIter.{IntoIter}
use Rattle.ne_vec.specs.Iterators.{IteratesOver, IteratesByValue}
use Rattle.ne_vec.specs.SliceRuns.{Cutting, BecomesCutter, CutsRun}
use Rattle.ne_iter.specs.Sources.{HasFirst}

pub HasFirst-iter : {X : Type 0} (xs : List X) (it : Iter X) → IteratesOver xs it → HasFirst
    iter_steps it
HasFirst-iter xs it made t ended = omega (arith, made.0, ap length made.1, ended.0)

pub HasFirst-iter_mut : {X : Type 0} (it : IterMut X) → 0 < length (iter_mut_rest it)
    → HasFirst iter_mut_steps it
HasFirst-iter_mut it some t ended = omega (arith, some, ended.0)

pub HasFirst-into_iter : {X Z : Type 0} (xs : List X) (it : IntoIter X Z) → IteratesByValue xs it
    → HasFirst into_iter_steps it
HasFirst-into_iter xs it made t ended = omega (arith, made.0, made.2, ended.0)

pub HasFirst-chunks : {X : Type 0} (c it : List X) → (0 < length c) × (it ≡ c)
    → HasFirst (YieldsFirst (λ s. s)) it
HasFirst-chunks c it made t ended = omega (arith, made.0, ap length made.1, ap length ended.0)

pub HasFirst-cuts : {X F : Type 0} (calls : Shared F (Bor X × (Bor X × Unit {0})) Bool)
    (place : (X → X → Bool) → List X → X → Bool) (c it : Cutting X F)
    → BecomesCutter c it → HasFirst (CutsRun calls place) it
HasFirst-cuts calls place c it made t ended =
    omega (arith, made.0, ap (λ q. length q.left) made.2, ap length ended.1.0)
