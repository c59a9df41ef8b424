use Rattle.ne_runs.proofs.texts.rows_are_one.Goals as goal
use Rattle.ne_runs.proofs.ModeRows.{has_rows, only_rows}

pub returns : goal.returns
returns c =
    let division = c.has_one_division.ensures in
    let least = c.numbers_have_one_least.ensures in
    let greatest = c.numbers_have_one_greatest.ensures in
    record {
      there = has_rows division.exists division.unique least.there greatest.there least.only
          greatest.only;
      only = only_rows division.exists division.unique least.there greatest.there least.only
          greatest.only;
    }
