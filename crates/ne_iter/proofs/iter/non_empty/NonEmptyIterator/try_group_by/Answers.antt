use Rattle.ne_iter.proofs.iter.non_empty.NonEmptyIterator.try_group_by.Goals as goal
use Rattle.std.proofs.Common.{refl}
use Rattle.ne_iter.specs.GroupingRuns.{divided_source, divided_callee}
use Rattle.ne_iter.specs.RunsBy.{CutsThrough}
use Rattle.ne_iter.specs.RunTestLaws.{cuts_by_tried_key}
use Rattle.ne_iter.specs.TryGroupBy.{by_keys, by_tried_key}
use Rattle.ne_iter.specs.declared.iter.try_group_by.ByTriedKey.{ByTriedKey}
use Rattle.ne_iter.proofs.Grouped.{gives_runs}
use Rattle.ne_iter.proofs.GroupedLists.{cut_through, has_cut, yields_through}

pub returns-clause-gives : goal.returns-clause-gives
returns-clause-gives g c =
    let steps = g.Self.IntoIter.Iterator.next_gives in
    let becomes = g.Self.IntoIterator.into_iter_gives in
    let eq = g.K.PartialEq.eq in
    gives_runs steps (by_tried_key g.F.Fn eq) becomes divided_source divided_callee _ _ _
    (λ whole rs. has_cut becomes steps c.args.self c.args.f whole rs (by_tried_key g.F.Fn eq)
    (by_keys g.F.Fn eq) (cuts_by_tried_key g.F.Fn eq))

pub returns-clause-lists : goal.returns-clause-lists
returns-clause-lists g c =
    let view = g.Self.NonEmptyIterator.item_view in
    yields_through g.Self.IntoIterator.into_iter_gives g.Self.IntoIter.Iterator.next_gives
    c.args.self c.args.f (divided_source {C = ByTriedKey}) divided_callee _ refl refl _ _ view
    (CutsThrough (by_keys g.F.Fn g.K.PartialEq.eq) view c.args.f)
    (λ ys rs. cut_through c.args.f view ys rs (by_keys g.F.Fn g.K.PartialEq.eq))
