use Rattle.ne_vec.proofs.laws.always_callable_test_is_callable_at_items_mut.Goals as goal
use Rattle.ne_vec.proofs.Sifts.{items_always_mut}

pub returns : goal.returns
returns g c f xs always = items_always_mut g.F.FnMut f xs always
