use Rattle.ne_iter.proofs.iter.non_empty.NonEmptyIterator.reduce.Goals as goal
use Rattle.std.proofs.Common.{ap, sym, ◌∙◌}
use Rattle.std.specs.Prelude.{◌≡◌, Some}
use Rattle.std.specs.List.{reduce}
use Rattle.ne_vec.specs.ListLaws.{triggered}
use Rattle.ne_iter.proofs.SourceLists.{of_run}

pub returns-clause-lists : goal.returns-clause-lists
returns-clause-lists g c xs lists =
    let run = c.in-Some.ensures.runs in
    let first = run.3.1 in (
      triggered _ xs,
      λ h acts. of_run _ _ _ xs lists (λ l. Some c.in-Some.x ≡ reduce h l) c.into_iter.result
          run.0 c.into_iter.ensures.into_iter_gives run.1 run.2
          (ap Some (first.3 h acts) ∙ sym (ap (reduce h) first.2)),
    )
