use Rattle.user_programs.proofs.report.report.Goals as goal
use Rattle.std.proofs.Common.{◌<◌, ◌^◌, subst, sym}
use Rattle.std.proofs.lemmas.Result.{IfOk-weaker}
use Rattle.user_programs.specs.Reports.{AreSummaries, IsReport}
use Rattle.user_programs.proofs.Groups.{groups_fit, sums_stay}
use Rattle.user_programs.proofs.GroupsOfRows.{is_report}

pub summaries-requires : goal.summaries-requires
summaries-requires c =
    let sorted = c.in_ok-rows in
    let same = sums_stay c.args.rows sorted.rows sorted.ensures.same in
    groups_fit sorted.rows c.in_ok-groups.groups (2 ^ 64) c.in_ok-groups.ensures
    (subst (λ n. n < 2 ^ 64) (sym same) c.requires)

pub returns : goal.returns
returns c =
    let sorted = c.in_ok-rows in
    IfOk-weaker c.summaries.result (AreSummaries c.in_ok-groups.groups) (IsReport c.args.rows)
    (λ lines are. is_report c.args.rows sorted.rows c.in_ok-groups.groups lines
    sorted.ensures.same sorted.ensures.ascending sorted.ensures.stable c.in_ok-groups.ensures
    are)
    c.summaries.ensures
