use Rattle.ne_vec.proofs.vector.NEVec.dedup.Goals as goal
use Rattle.std.proofs.Common.{ap, ◌∙◌}
use Rattle.std.proofs.lemmas.List.Filters.{dedup_is}
use Rattle.ne_vec.specs.Divisions.{heads}
use Rattle.ne_vec.proofs.Kept.{keeps_firsts, some_kept}
use Rattle.ne_vec.proofs.Relations.{runs_converse}

pub invariant_of-self : goal.invariant_of-self
invariant_of-self g c = some_kept _ _ _ (dedup_is _ _ _ c.dedup.ensures.filtered) c.self.invariant

pub returns-clause-stays : goal.returns-clause-stays
returns-clause-stays g c = some_kept _ _ _ (dedup_is _ _ _ c.dedup.ensures.filtered)
    c.self.invariant

pub returns-clause-firsts : goal.returns-clause-firsts
returns-clause-firsts g c =
    let kept = keeps_firsts _ _ _ (dedup_is _ _ _ c.dedup.ensures.filtered) in
    rw (← c.self.view_is)
    (kept.0 ∙ ap heads (runs_converse g.T.PartialEq.eq g.met.T.PartialEq.laws.symm _), kept.1)
