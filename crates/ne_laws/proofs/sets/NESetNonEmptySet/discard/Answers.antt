use Rattle.ne_laws.proofs.sets.NESetNonEmptySet.discard.Goals as goal
use Rattle.std.specs.Set.{remove_key}
use Rattle.std.proofs.lemmas.List.Sorted.{All-permutation}
use Rattle.std.proofs.lemmas.Map.Views.{All-remove_key}
use Rattle.ne_laws.proofs.SetItems.{discards, removed}

pub returns-clause-discards : goal.returns-clause-discards
returns-clause-discards g c =
    discards g.T.PartialEq.eq c.args.x.now c.args.self.now.keys c.remove.new.self.keys
    c.remove.result _ _ c.remove.ensures.keys c.remove.ensures.updates
    (λ left changed. removed g.met.T.Eq.laws c.args.x.now c.args.self.now.keys
    c.remove.new.self.keys c.len-len.ensures.valid.1
    (λ P all. All-permutation P (remove_key (g.T.PartialEq.eq c.args.x.now) c.args.self.now.keys)
    c.remove.new.self.keys left
    (All-remove_key (g.T.PartialEq.eq c.args.x.now) P c.args.self.now.keys all))
    changed.0)
    c.remove.ensures.len
