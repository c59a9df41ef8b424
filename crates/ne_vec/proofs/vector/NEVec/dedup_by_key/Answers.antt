use Rattle.ne_vec.proofs.vector.NEVec.dedup_by_key.Goals as goal
use Rattle.std.proofs.lemmas.Fn.{dedup_same}
use Rattle.ne_vec.proofs.Kept.{stays, keeps_firsts}

pub invariant_of-self : goal.invariant_of-self
invariant_of-self g c = stays _ _ _ _ c.dedup_by_key.ensures.filtered c.self.invariant

pub returns-clause-stays : goal.returns-clause-stays
returns-clause-stays g c = stays _ _ _ _ c.dedup_by_key.ensures.filtered c.self.invariant

pub returns-clause-firsts : goal.returns-clause-firsts
returns-clause-firsts g c same pure =
    rw (← c.self.view_is) (keeps_firsts _ _ _ (dedup_same _ (λ later kept. same kept later) _
    (λ y x r f' y' x' k.
    let p = pure x y r f' y' x' k in (p.1, p.0, p.2, p.3)) _ _ c.dedup_by_key.ensures.filtered))
