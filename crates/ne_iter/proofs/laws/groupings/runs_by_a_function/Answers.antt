use Rattle.ne_iter.proofs.laws.groupings.runs_by_a_function.Goals as goal
use Rattle.std.proofs.Common.{sym, subst}
use Rattle.ne_vec.specs.Divisions.{IsDivision, by_first}
use Rattle.ne_iter.specs.Keys.{items_of}
use Rattle.ne_iter.specs.RunTestLaws.{divided_by_function}

pub returns : goal.returns
returns g c eq h ps rs last acts called d =
    subst (IsDivision (by_first (λ x y. eq (h x) (h y))) (items_of ps)) (sym d.2)
    (divided_by_function g.F.FnMut eq h ps d.0 c.args.f.now last acts called d.1)
