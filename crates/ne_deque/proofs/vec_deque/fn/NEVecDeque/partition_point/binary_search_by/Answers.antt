use Rattle.ne_deque.proofs.vec_deque.fn.NEVecDeque.partition_point.binary_search_by.Goals as goal
use Rattle.std.proofs.Common.{refl, sym, ap}
use Rattle.std.proofs.lemmas.Fn.{called_at}
use Rattle.ne_vec.specs.SearchLaws.{side}

pub returns-then-pred : goal.returns-then-pred
returns-then-pred g c =
    (c.pred.result, called_at g.P.FnMut c.pred.ensures refl, ap side (sym c.if-pred.true))

pub returns-else-pred : goal.returns-else-pred
returns-else-pred g c =
    (c.pred.result, called_at g.P.FnMut c.pred.ensures refl, ap side (sym c.if-pred.false))
