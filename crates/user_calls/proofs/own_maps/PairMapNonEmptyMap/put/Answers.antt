use Rattle.user_calls.proofs.own_maps.PairMapNonEmptyMap.put.Goals as goal
use Rattle.std.proofs.Common.{sym, ◌∙◌}
use Rattle.user_calls.proofs.PairLists.{added_last}

pub invariant_of-self-2 : goal.invariant_of-self-2
invariant_of-self-2 g c =
    (added_last g.met.K.Eq.laws c.args.k c.args.v c.args.self.now c.self.inside.pairs
    c.push.new.self c.self.view_is c.in_ok-push.ensures.added
    (sym c.has.ensures ∙ c.if-has.false) c.self.invariant).1

pub returns-clause-puts : goal.returns-clause-puts
returns-clause-puts g c =
    (added_last g.met.K.Eq.laws c.args.k c.args.v c.args.self.now c.self.inside.pairs
    c.push.new.self c.self.view_is c.in_ok-push.ensures.added
    (sym c.has.ensures ∙ c.if-has.false) c.self.invariant).0

pub returns-clause-map : goal.returns-clause-map
returns-clause-map g c = invariant_of-self-2 g c
