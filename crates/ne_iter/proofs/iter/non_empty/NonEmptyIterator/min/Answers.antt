use Rattle.ne_iter.proofs.iter.non_empty.NonEmptyIterator.min.Goals as goal
use Rattle.std.proofs.Common.{◌∷◌, rules}
use Rattle.std.proofs.lemmas.List.MinMax.{ranks_by}
use Rattle.ne_vec.specs.ListLaws.{triggered}
use Rattle.ne_iter.specs.Consumers.{less_by, IsBestOfList}
use Rattle.ne_iter.proofs.Best.{IsFirstLeast-kept, less_by-from_partial_lt}
use Rattle.ne_iter.proofs.Traced.{best_run_of}
use Rattle.ne_iter.proofs.Extremes.{best_of_list}
use Rattle.ne_iter.proofs.SourceLists.{of_read}

pub returns-clause-gives : goal.returns-clause-gives
returns-clause-gives g c =
    let kept = c.best.ensures in
    let item = g.met.Self.Item.Ord in (
      kept.0 ∷ kept.1,
      kept.2,
      IsFirstLeast-kept (λ y. y) _ _ (less_by g.Self.Item.Ord.cmp) (ranks_by item.total (λ x. x))
          kept.0 kept.1 c.best.result
          (λ x y t a b says. less_by-from_partial_lt item.matches_partial_cmp y x t (search rules))
          kept.3,
    )

pub returns-clause-runs : goal.returns-clause-runs
returns-clause-runs g c =
    let r = returns-clause-gives g c in
    best_run_of (less_by g.Self.Item.Ord.cmp) r.0 _ r.2.0 r.2.1 r.2.2 r.1

pub returns-clause-lists : goal.returns-clause-lists
returns-clause-lists g c xs lists =
    let r = returns-clause-gives g c in
    let is = IsBestOfList (less_by g.Self.Item.Ord.cmp) in (
      triggered _ xs,
      of_read _ _ _ xs lists (λ l. is l c.best.result) r.0 r.1
          (best_of_list (less_by g.Self.Item.Ord.cmp) r.0 c.best.result r.2),
    )
