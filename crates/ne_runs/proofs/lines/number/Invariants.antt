use Rattle.ne_runs.proofs.lines.number.Given as goal
use Rattle.std.proofs.Common.{◌≡◌, ◌^◌, ◌<◌, drop}
use Rattle.std.specs.Str.{all_ascii_digits}
use Rattle.std.specs.Str.Parse.{digits_value, digits_value_after}

-- The bytes that are left decide whether all are digits, and continue from the value so far.
abbrev pub invariant-loop-byte : goal.invariant-loop-byte
invariant-loop-byte l = record {
  digits : all_ascii_digits (drop l.byte-index l.line) ≡ all_ascii_digits l.line;
  value : digits_value_after 10 l.value (drop l.byte-index l.line) ≡ digits_value 10 l.line;
  small : l.value < 10 ^ l.byte-index;
}
