use Rattle.ne_iter.proofs.laws.closures.always_callable_is_callable_on_all_items.Goals as goal
use Rattle.std.proofs.Common.{[], ◌∷◌, refl}
use Rattle.std.proofs.lemmas.Fn.{serves_by}
use Rattle.std.specs.Fn.{CalledAt, TakesAt}
use denote.Param.Always.{always_mut, mut_next}

-- The closure is still always callable after each call.
pub returns : goal.returns
returns g c it f always =
    let calls = g.F.FnMut in
    serves_by (λ p x q. (r : _) × CalledAt calls p x r q) (λ _ p. always_mut calls p)
    (λ _ p x q h called.
    mut_next calls p (called.1.shown, tt) called.0 q q called.1.called refl h)
    g.I.Iterator.next_gives (λ p x. TakesAt calls p x) it f always
    (λ xs t p x u y e h shown is. (h.at ((shown, tt) ∷ [])).0)
