use Rattle.ne_hash.proofs.set.NESet.retain.Goals as goal
use Rattle.std.proofs.lemmas.Fn.{filter_same}

pub returns-then-is_empty-clause-kept : goal.returns-then-is_empty-clause-kept
returns-then-is_empty-clause-kept g c keeps pure =
    rw (← c.self.view_is) (filter_same _ keeps _
    (λ x r f' k. ((pure x r f' k).1, (pure x r f' k).0)) _ _ c.retain.ensures.filtered)

pub returns-else-is_empty-clause-kept : goal.returns-else-is_empty-clause-kept
returns-else-is_empty-clause-kept g c keeps pure =
    rw (← c.self.view_is) (filter_same _ keeps _
    (λ x r f' k. ((pure x r f' k).1, (pure x r f' k).0)) _ _ c.retain.ensures.filtered)
