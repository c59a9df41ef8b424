use Rattle.ne_laws.proofs.sets.NEIndexSetNonEmptySet.discard.Goals as goal
use Rattle.std.proofs.Common.{subst, sym}
use Rattle.std.specs.List.{All}
use Rattle.ne_laws.proofs.SetItems.{all_after_swap_remove, discards, removed}

pub returns-clause-discards : goal.returns-clause-discards
returns-clause-discards g c =
    discards g.T.PartialEq.eq c.args.x.now c.args.self.now.keys c.swap_remove.new.self.keys
    c.swap_remove.result _ _ c.swap_remove.ensures.keys c.swap_remove.ensures.updates
    (λ left changed. removed g.met.T.Eq.laws c.args.x.now c.args.self.now.keys
    c.swap_remove.new.self.keys c.len-len.ensures.valid.1
    (λ P all. subst (All P) (sym left)
    (all_after_swap_remove (g.T.PartialEq.eq c.args.x.now) c.args.self.now.keys P all))
    changed.0)
    c.swap_remove.ensures.len
