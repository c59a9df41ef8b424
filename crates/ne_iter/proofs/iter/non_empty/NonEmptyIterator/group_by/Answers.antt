use Rattle.ne_iter.proofs.iter.non_empty.NonEmptyIterator.group_by.Goals as goal
use Rattle.std.proofs.Common.{refl}
use Rattle.ne_iter.specs.GroupBy.{by_key, GroupsThrough}
use Rattle.ne_iter.specs.GroupingRuns.{divided_source, divided_callee}
use Rattle.ne_iter.specs.declared.iter.group_by.ByKey.{ByKey}
use Rattle.ne_iter.proofs.Grouped.{gives_runs}
use Rattle.ne_iter.proofs.GroupedLists.{grouped_through, has_runs, yields_through}

pub returns-clause-gives : goal.returns-clause-gives
returns-clause-gives g c =
    let steps = g.Self.IntoIter.Iterator.next_gives in
    let eq = g.K.PartialEq.eq in
    let becomes = g.Self.IntoIterator.into_iter_gives in
    gives_runs steps (by_key g.F.FnMut eq) becomes divided_source divided_callee _ _ _
    (λ whole rs. has_runs becomes steps c.args.self c.args.f whole rs g.F.FnMut eq)

pub returns-clause-lists : goal.returns-clause-lists
returns-clause-lists g c =
    let view = g.Self.NonEmptyIterator.item_view in
    yields_through g.Self.IntoIterator.into_iter_gives g.Self.IntoIter.Iterator.next_gives
    c.args.self c.args.f (divided_source {C = ByKey}) divided_callee _ refl refl _ _ view
    (GroupsThrough g.F.FnMut g.K.PartialEq.eq view c.args.f)
    (λ ys rs. grouped_through c.args.f view ys rs g.F.FnMut g.K.PartialEq.eq)
