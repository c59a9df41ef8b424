use Rattle.user_calls.proofs.own_maps.PairMapNonEmptyMap.take.Goals as goal
use Rattle.std.proofs.Common.{sym}
use Rattle.std.proofs.lemmas.Option.{none-some}
use Rattle.user_calls.proofs.PairLists.{absent, not_taken, taken_there}

pub returns-in_err-place-clause-takes : goal.returns-in_err-place-clause-takes
returns-in_err-place-clause-takes g c =
    rw c.from_residual.ensures (not_taken g.met.K.Eq.laws c.args.k.now c.args.self.now
    (absent (g.K.PartialEq.eq c.args.k.now) c.args.self.now (sym c.in_err-place.ensures.place)))

pub invariant_of-self-2 : goal.invariant_of-self-2
invariant_of-self-2 g c =
    (taken_there g.met.K.Eq.laws c.args.k.now c.args.self.now c.self.inside.pairs c.remove.new.self
    c.in_ok-place.place (c.in_ok-_key._key, c.in_ok-_key.v) c.self.view_is
    c.in_ok-place.ensures.place
    (λ one. none-some _ (sym (c.in_ok-_key.ensures.0.1 one))) c.in_ok-_key.ensures.1.0
    c.in_ok-_key.ensures.1.1 c.self.invariant).1

pub returns-clause-takes : goal.returns-clause-takes
returns-clause-takes g c =
    (taken_there g.met.K.Eq.laws c.args.k.now c.args.self.now c.self.inside.pairs c.remove.new.self
    c.in_ok-place.place (c.in_ok-_key._key, c.in_ok-_key.v) c.self.view_is
    c.in_ok-place.ensures.place
    (λ one. none-some _ (sym (c.in_ok-_key.ensures.0.1 one))) c.in_ok-_key.ensures.1.0
    c.in_ok-_key.ensures.1.1 c.self.invariant).0

pub returns-clause-map : goal.returns-clause-map
returns-clause-map g c = invariant_of-self-2 g c
