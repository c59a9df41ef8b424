use Rattle.ne_iter.proofs.iter.non_empty.NonEmptyIterator.collect.Goals as goal
use Rattle.std.proofs.lemmas.Result.{IfOk-weaker}
use Rattle.ne_vec.specs.ListLaws.{triggered}
use Rattle.ne_iter.proofs.Traced.{run_of}
use Rattle.ne_iter.proofs.PrefixesMade.{prefix_makes}
use Rattle.ne_iter.specs.LoopLaws.{lists_read}

pub returns-clause-runs : goal.returns-clause-runs
returns-clause-runs g c = IfOk-weaker c.from_nonempty_iter.result _ _
    (λ v h. run_of h.1 (λ l. g.B.FromNonEmptyIterator.collected l v) h.2)
    c.from_nonempty_iter.ensures

pub returns-clause-lists : goal.returns-clause-lists
returns-clause-lists g c =
    let collected = g.B.FromNonEmptyIterator.collected in
    let complete = g.B.FromNonEmptyIterator.is_complete in
    IfOk-weaker c.from_nonempty_iter.result _ _ (λ v h xs lists. (
      triggered c.args.self xs,
      prefix_makes collected v xs h.0 complete
          (lists_read _ _ c.args.self xs lists (complete v) h.0 h.1) h.2,
    )) c.from_nonempty_iter.ensures
