use Rattle.ne_vec.proofs.laws.always_callable_test_is_callable_at_items.Goals as goal

pub returns : goal.returns
returns g c = c.always_callable_is_callable_at_items.ensures
