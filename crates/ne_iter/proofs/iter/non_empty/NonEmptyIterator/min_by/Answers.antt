use Rattle.ne_iter.proofs.iter.non_empty.NonEmptyIterator.min_by.Goals as goal
use Rattle.std.proofs.Common.{◌∷◌, rules, subst, map-id}
use Rattle.std.specs.Ordering.{is_gt}
use Rattle.ne_vec.specs.Lists.{itself}
use Rattle.ne_iter.specs.Consumers.{PicksLeast}
use Rattle.ne_iter.proofs.Best.{picks_best}
use Rattle.ne_iter.proofs.SourceLists.{each_view, read_through}

pub returns-clause-gives : goal.returns-clause-gives
returns-clause-gives g c =
    let kept = c.best.ensures in
    let items = kept.0 ∷ kept.1 in
    let best = picks_best _ _ g.F.Fn c.args.compare is_gt (λ v w t says. search (rules, says))
    kept.0 kept.1 c.best.result kept.3 itself in (
      items,
      kept.2,
      subst (λ l. PicksLeast g.F.Fn c.args.compare itself l c.best.result) (map-id items)
          best,
    )

pub returns-clause-lists : goal.returns-clause-lists
returns-clause-lists g c =
    let kept = c.best.ensures in
    each_view (λ view xs. PicksLeast g.F.Fn c.args.compare view xs c.best.result)
    g.Self.NonEmptyIterator.item_view (λ view xs known.
    let best = picks_best _ _ g.F.Fn c.args.compare is_gt (λ v w t says. search (rules, says))
    kept.0 kept.1 c.best.result kept.3 view in
    read_through _ _ c.args.self view.of xs known
    (λ l. PicksLeast g.F.Fn c.args.compare view l c.best.result) (kept.0 ∷ kept.1) kept.2
    best)
