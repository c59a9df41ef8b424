use Rattle.ne_products.proofs.sides.NEEither.into_nonempty_iter.Goals as goal
use Rattle.std.proofs.Common.{refl}
use Rattle.ne_vec.specs.ListLaws.{triggered}
use Rattle.ne_products.specs.declared.sides.NEEither.TheVariants.{Left, Right}
use Rattle.ne_products.proofs.SideRuns.{side_lists, side_reads}

pub returns-in-Left-clause-gives : goal.returns-in-Left-clause-gives
returns-in-Left-clause-gives g c = side_reads _ _ _ _ _

pub returns-in-Right-clause-gives : goal.returns-in-Right-clause-gives
returns-in-Right-clause-gives g c = side_reads _ _ _ _ _

pub returns-in-Left-clause-lists : goal.returns-in-Left-clause-lists
returns-in-Left-clause-lists g c =
    side_lists g.L.IntoNEIter.IntoIterator.into_iter_gives
    g.L.IntoNEIter.IntoIter.Iterator.next_gives g.R.IntoNEIter.IntoIterator.into_iter_gives
    g.R.IntoNEIter.IntoIter.Iterator.next_gives (Left c.into_nonempty_iter.result)

pub returns-in-Right-clause-lists : goal.returns-in-Right-clause-lists
returns-in-Right-clause-lists g c =
    side_lists g.L.IntoNEIter.IntoIterator.into_iter_gives
    g.L.IntoNEIter.IntoIter.Iterator.next_gives g.R.IntoNEIter.IntoIterator.into_iter_gives
    g.R.IntoNEIter.IntoIter.Iterator.next_gives (Right c.into_nonempty_iter-in-Right.result)

pub returns-in-Left-clause-side : goal.returns-in-Left-clause-side
returns-in-Left-clause-side g c f h = (
  refl,
  λ lefts rights. rw c.in-Left.is (
    triggered _ _,
    (returns-in-Left-clause-lists g c
        (f c.in-Left.left) (lefts c.in-Left.left c.into_nonempty_iter.result
        c.into_nonempty_iter.ensures.into_nonempty_iter_gives)).1,
  ),
)

pub returns-in-Right-clause-side : goal.returns-in-Right-clause-side
returns-in-Right-clause-side g c f h = (
  refl,
  λ lefts rights. rw c.in-Right.is (
    triggered _ _,
    (returns-in-Right-clause-lists g c
        (h c.in-Right.right) (rights c.in-Right.right c.into_nonempty_iter-in-Right.result
        c.into_nonempty_iter-in-Right.ensures.into_nonempty_iter_gives)).1,
  ),
)
