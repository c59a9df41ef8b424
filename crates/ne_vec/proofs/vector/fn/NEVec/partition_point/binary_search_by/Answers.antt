use Rattle.ne_vec.proofs.vector.fn.NEVec.partition_point.binary_search_by.Goals as goal
use Rattle.std.proofs.Common.{refl, sym, ap, cond}
use Rattle.std.proofs.lemmas.Fn.{called_at}
use Rattle.std.specs.declared.cmp.Ordering.TheVariants.{Less, Greater}

pub returns-then-pred : goal.returns-then-pred
returns-then-pred g c = (
  c.pred.result,
  called_at g.P.FnMut c.pred.ensures refl,
  ap (λ met. cond met Less Greater) (sym c.if-pred.true),
)

pub returns-else-pred : goal.returns-else-pred
returns-else-pred g c = (
  c.pred.result,
  called_at g.P.FnMut c.pred.ensures refl,
  ap (λ met. cond met Less Greater) (sym c.if-pred.false),
)
