use Rattle.ne_vec.proofs.vector.map.map_each.Goals as goal
use Rattle.std.proofs.Common.{arith}
use Rattle.ne_vec.proofs.Mapped.{begun, takes_now, next_turn, all_called}

pub loop-i-init : goal.loop-i-init
loop-i-init g c = begun g.F.FnMut c.args.f c.args.items.now c.requires

pub replace_with-f-requires : goal.replace_with-f-requires
replace_with-f-requires g c =
    takes_now g.F.FnMut c.args.f c.args.items.now c.loop-i.f
    c.loop-i.items c.loop-i.i c.loop-i.invariant _ (omega arith)

pub loop-i-preserved : goal.loop-i-preserved
loop-i-preserved g c =
    next_turn g.F.FnMut c.args.f c.args.items.now c.loop-i.f
    c.loop-i.items c.loop-i.i c.loop-i.invariant _ _ _ (omega arith) c.replace_with-f.ensures

pub returns-clause-called : goal.returns-clause-called
returns-clause-called g c =
    all_called g.F.FnMut c.args.f c.args.items.now c.loop-i.f
    c.loop-i.items c.loop-i.i c.loop-i.invariant (omega arith)
