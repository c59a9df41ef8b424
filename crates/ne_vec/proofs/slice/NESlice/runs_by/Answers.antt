use Rattle.ne_vec.proofs.slice.NESlice.runs_by.Goals as goal
use Rattle.std.proofs.Common.{refl}
use Rattle.ne_vec.specs.Divisions.{by_first}
use Rattle.ne_vec.proofs.PartLists.{runs_give, takes_heads}

pub returns-clause-lists : goal.returns-clause-lists
returns-clause-lists g c = runs_give g.F.Fn by_first c.args.same _ _ refl
    (let e = c.self.view_is in cc)

pub returns-clause-heads : goal.returns-clause-heads
returns-clause-heads g c = takes_heads by_first _ c.self.invariant
