use Rattle.ne_iter.proofs.iter.non_empty.NonEmptyIterator.all_or_errors.Goals as goal
use Rattle.std.proofs.Common.{◌∷◌, refl}
use Rattle.std.proofs.lemmas.Result.{IfOk-weaker}
use Rattle.ne_vec.specs.ListLaws.{triggered}
use Rattle.ne_iter.specs.Collected.{IsAllOrErrors}
use Rattle.ne_iter.specs.LoopLaws.{Reads-loop}
use Rattle.ne_iter.proofs.Traced.{whole_run_of}
use Rattle.ne_iter.proofs.SourceLists.{of_read}

pub returns-clause-gives : goal.returns-clause-gives
returns-clause-gives g c =
    let from = c.next-first.ensures.first in
    IfOk-weaker c.all_or_errors.result _ _ (λ valid made. let then = made.2 in (
      c.next-first.result.0 ∷ made.0,
      Reads-loop from.0 then.0 made.1 from.1 from.2 refl then.1 then.2,
      made.3,
    )) c.all_or_errors.ensures

pub returns-clause-lists : goal.returns-clause-lists
returns-clause-lists g c = IfOk-weaker c.all_or_errors.result _ _ (λ valid r rs lists. (
  triggered _ rs,
  of_read _ _ _ rs lists (λ l. IsAllOrErrors l valid) r.0 r.1 r.2,
)) (returns-clause-gives g c)

pub returns-clause-runs : goal.returns-clause-runs
returns-clause-runs g c = IfOk-weaker c.all_or_errors.result _ _ (λ valid r.
    whole_run_of r.1 (λ p. IsAllOrErrors p.items valid) r.2) (returns-clause-gives g c)
