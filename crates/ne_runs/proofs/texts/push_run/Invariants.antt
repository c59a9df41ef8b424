use Rattle.ne_runs.proofs.texts.push_run.Given as goal
use Rattle.std.proofs.Common.{◌≡◌, ◌++◌, drop, string_bytes}
use Rattle.std.specs.List.{flat_map}
use Rattle.ne_runs.proofs.Rows.{behind}

-- The text so far, followed by the numbers that are left, is the whole text.
abbrev pub invariant-loop-number : goal.invariant-loop-number
invariant-loop-number l =
    string_bytes l.text ++ flat_map behind (drop l.number-index l.rest)
    ≡ string_bytes l.initial.text ++ flat_map behind l.rest
