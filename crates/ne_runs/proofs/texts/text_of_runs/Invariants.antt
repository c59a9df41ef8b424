use Rattle.ne_runs.proofs.texts.text_of_runs.Given as goal
use Rattle.std.proofs.Common.{◌≡◌, string_bytes}
use Rattle.std.specs.List.{flat_map}
use Rattle.ne_runs.specs.Modes.{row_text}

-- The text is the rows of the runs so far.
abbrev pub invariant-loop-run : goal.invariant-loop-run
invariant-loop-run g l = string_bytes l.text ≡ flat_map row_text l.yielded
