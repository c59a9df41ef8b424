use Rattle.user_programs.proofs.report.fits.Goals as goal
use Rattle.std.proofs.Common.{ap, ◌∙◌, arith, is_some}
use Rattle.user_programs.specs.Reports.{values}
use Rattle.user_programs.proofs.Totals.{is_there}

pub returns : goal.returns
returns c = c.is_some.ensures ∙ ap is_some c.checked_total.ensures
    ∙ is_there 0 (values c.args.rows.now) (omega arith)
