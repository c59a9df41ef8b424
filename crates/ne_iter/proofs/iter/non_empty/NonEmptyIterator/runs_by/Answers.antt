use Rattle.ne_iter.proofs.iter.non_empty.NonEmptyIterator.runs_by.Goals as goal
use Rattle.std.proofs.Common.{refl}
use Rattle.ne_iter.specs.GroupingRuns.{divided_source, divided_callee}
use Rattle.ne_iter.specs.RunsBy.{by_test, CutsThrough}
use Rattle.ne_iter.specs.RunTestLaws.{cuts_by_test}
use Rattle.ne_iter.specs.declared.iter.runs_by.ByTest.{ByTest}
use Rattle.ne_iter.proofs.Grouped.{gives_runs}
use Rattle.ne_iter.proofs.GroupedLists.{cut_through, has_cut, yields_through}

pub returns-clause-gives : goal.returns-clause-gives
returns-clause-gives g c =
    let steps = g.Self.IntoIter.Iterator.next_gives in
    let becomes = g.Self.IntoIterator.into_iter_gives in
    gives_runs steps (by_test g.F.Fn) becomes divided_source divided_callee _ _ _
    (λ whole rs. has_cut becomes steps c.args.self c.args.same whole rs (by_test g.F.Fn) g.F.Fn
    (λ f _ ps runs _. cuts_by_test g.F.Fn f ps runs))

pub returns-clause-lists : goal.returns-clause-lists
returns-clause-lists g c =
    let view = g.Self.NonEmptyIterator.item_view in
    yields_through g.Self.IntoIterator.into_iter_gives g.Self.IntoIter.Iterator.next_gives
    c.args.self c.args.same (divided_source {C = ByTest}) divided_callee _ refl refl _ _ view
    (CutsThrough g.F.Fn view c.args.same)
    (λ ys rs. cut_through c.args.same view ys rs g.F.Fn)
