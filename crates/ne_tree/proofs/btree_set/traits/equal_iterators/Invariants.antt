use Rattle.ne_tree.proofs.btree_set.traits.equal_iterators.Given as goal
use Rattle.std.proofs.Common.{◌≡◌, length}
use Rattle.std.specs.Cmp.Lexicographic.{pointwise}

abbrev pub invariant-loop-x : goal.invariant-loop-x
invariant-loop-x g l = pointwise g.T.PartialEq.eq l.mine l.theirs
    ≡ pointwise g.T.PartialEq.eq l.initial.mine l.initial.theirs

abbrev pub decreases-loop-x : goal.decreases-loop-x
decreases-loop-x g l = length l.mine
