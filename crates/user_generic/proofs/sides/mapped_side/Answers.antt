use Rattle.user_generic.proofs.sides.mapped_side.Goals as goal
use Rattle.std.proofs.Common.{subst, sym, true}
use Rattle.std.proofs.lemmas.Result.{IfOk-weaker}
use Rattle.ne_iter.specs.Calls.{Calls}

pub returns : goal.returns
returns g c = IfOk-weaker c.collect.result _ _ (λ ys h.
    let mapped = c.map.ensures.gives true h.0 h.1 in (
      mapped.items,
      mapped.f_then,
      subst (λ l. Calls g.F.FnMut c.args.f mapped.items l mapped.f_then) (sym h.2) mapped.called,
      c.either_gives_its_side.ensures.reads true mapped.items mapped.read,
    )) c.collect.ensures.gives
