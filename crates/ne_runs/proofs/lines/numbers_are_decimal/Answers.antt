use Rattle.ne_runs.proofs.lines.numbers_are_decimal.Goals as goal
use Rattle.ne_runs.proofs.Numbers.{number_of-weighed, is_number-decimal, number_of-decimal}

pub returns : goal.returns
returns c = record {
  weighed = number_of-weighed;
  good = is_number-decimal;
  printed = number_of-decimal;
}
