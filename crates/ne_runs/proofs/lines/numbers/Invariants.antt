use Rattle.ne_runs.proofs.lines.numbers.Given as goal
use Rattle.std.proofs.Common.{◌≡◌, ◌+◌, ◌*◌, ◌++◌, ◌≤◌, length, sum, vec_len}
use Rattle.std.specs.List.{position_or_len}
use Rattle.ne_runs.specs.Lines.{lines_of, numbers_of, is_bad}

-- The numbers so far and those of the rest are all the numbers. None of the numbers so far is from
-- a bad line, and each of them fits in 32 bits.
abbrev pub invariant-loop-rest : goal.invariant-loop-rest
invariant-loop-rest l = record {
  numbers : l.numbers.items ++ numbers_of l.rest ≡ numbers_of l.text;
  lines : vec_len l.numbers + length (lines_of l.rest) ≡ length (lines_of l.text);
  good : vec_len l.numbers + position_or_len is_bad (lines_of l.rest)
      ≡ position_or_len is_bad (lines_of l.text);
  fits : sum l.numbers.items ≤ vec_len l.numbers * 4294967295;
  short : vec_len l.numbers + length l.rest ≤ length l.text;
}

abbrev pub decreases-loop-rest : goal.decreases-loop-rest
decreases-loop-rest l = length l.rest
