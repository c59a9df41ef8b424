use Rattle.ne_vec.proofs.laws.always_callable_is_callable_at_items.Goals as goal
use Rattle.ne_vec.proofs.Halving.{items_always}

pub returns : goal.returns
returns g c f xs always = items_always g.F.FnMut xs f always
