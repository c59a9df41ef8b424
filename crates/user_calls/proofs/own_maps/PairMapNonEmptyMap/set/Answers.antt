use Rattle.user_calls.proofs.own_maps.PairMapNonEmptyMap.set.Goals as goal
use Rattle.std.proofs.Common.{Some, ap, refl, sym, ◌∙◌}
use Rattle.user_calls.proofs.PairLists.{absent, written_there}

pub returns-in_err-place-clause-old : goal.returns-in_err-place-clause-old
returns-in_err-place-clause-old g c =
    c.from_residual.ensures ∙ sym (absent (g.K.PartialEq.eq c.args.k.now) c.args.self.now
    (sym c.in_err-place.ensures.place))

pub returns-in_err-place-clause-writes : goal.returns-in_err-place-clause-writes
returns-in_err-place-clause-writes g c =
    rw (absent (g.K.PartialEq.eq c.args.k.now) c.args.self.now
    (sym c.in_err-place.ensures.place)) refl

pub invariant_of-self : goal.invariant_of-self
invariant_of-self g c =
    (written_there g.met.K.Eq.laws c.args.k.now c.args.v c.args.self.now c.self.inside.pairs
    c.in_ok-place.place c.index_mut.result.now c.replace.new.dest c.self.view_is
    c.in_ok-place.ensures.place c.index_mut.ensures.value c.replace.ensures.after
    c.self.invariant).2

pub returns-clause-old : goal.returns-clause-old
returns-clause-old g c =
    ap Some c.replace.ensures.value
    ∙ (written_there g.met.K.Eq.laws c.args.k.now c.args.v c.args.self.now c.self.inside.pairs
    c.in_ok-place.place c.index_mut.result.now c.replace.new.dest c.self.view_is
    c.in_ok-place.ensures.place c.index_mut.ensures.value c.replace.ensures.after
    c.self.invariant).0

pub returns-clause-writes : goal.returns-clause-writes
returns-clause-writes g c =
    (written_there g.met.K.Eq.laws c.args.k.now c.args.v c.args.self.now c.self.inside.pairs
    c.in_ok-place.place c.index_mut.result.now c.replace.new.dest c.self.view_is
    c.in_ok-place.ensures.place c.index_mut.ensures.value c.replace.ensures.after
    c.self.invariant).1

pub returns-clause-map : goal.returns-clause-map
returns-clause-map g c = invariant_of-self g c
