use Rattle.ne_iter.proofs.iter.best.fn.best_by_key.best.Goals as goal
use Rattle.std.proofs.Common.{refl}
use Rattle.std.proofs.lemmas.Fn.{says_at_two}

pub returns : goal.returns
returns g c = says_at_two g.G.Fn c.better.ensures refl
