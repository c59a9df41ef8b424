use Rattle.ne_runs.proofs.texts.push_set.Given as goal
use Rattle.std.proofs.Common.{◌≡◌, ◌++◌, string_bytes}
use Rattle.std.specs.List.{flat_map}
use Rattle.ne_runs.proofs.Rows.{behind}

-- The text is the initial text followed by the numbers so far.
abbrev pub invariant-loop-number : goal.invariant-loop-number
invariant-loop-number l = string_bytes l.text
    ≡ string_bytes l.initial.text ++ flat_map (λ n. behind n.now) l.yielded
