use Rattle.ne_iter.proofs.iter.once.Goals as goal
use Rattle.std.specs.Prelude.{[], ◌∷◌}
use Rattle.ne_iter.proofs.Once.{DrainsIf-once}
use Rattle.ne_iter.proofs.SourceLists.{read_lists}

pub returns-clause-lists : goal.returns-clause-lists
returns-clause-lists g c = read_lists _ _ _ (c.args.value ∷ [])
    (λ whole xs h. DrainsIf-once h.it c.args.value xs h.made.0 h.given)
