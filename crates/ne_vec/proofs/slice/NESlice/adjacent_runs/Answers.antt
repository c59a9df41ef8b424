use Rattle.ne_vec.proofs.slice.NESlice.adjacent_runs.Goals as goal
use Rattle.std.proofs.Common.{refl}
use Rattle.ne_vec.specs.Divisions.{by_previous}
use Rattle.ne_vec.proofs.PartLists.{runs_give}

pub returns-clause-lists : goal.returns-clause-lists
returns-clause-lists g c = runs_give g.F.Fn by_previous c.args.same _ _ refl
    (let e = c.self.view_is in cc)
