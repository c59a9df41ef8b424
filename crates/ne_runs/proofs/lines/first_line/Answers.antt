use Rattle.ne_runs.proofs.lines.first_line.Goals as goal
use Rattle.std.proofs.Common.{◌≤◌, ◌+◌, ◌-◌, length, drop, sym, arith, add-one, eqb}
use Rattle.std.proofs.lemmas.List.{take_all, length-drop}
use Rattle.std.proofs.lemmas.List.Quantifiers.{position-Some}
use Rattle.ne_runs.proofs.FirstLine.{lines_of-at_feed, lines_of-no_feed, no_line_feed}

pub returns-in-Some-clause-lines : goal.returns-in-Some-clause-lines
returns-in-Some-clause-lines c =
    let text = c.args.text.now in
    let next = c.in-Some.end + 1 in
    let found = position-Some (λ byte. eqb byte 10) text c.in-Some.end 0 (sym c.in-Some.ensures) in
    let short : length (drop next text) ≤ length text - next = omega (arith, length-drop next text)
    in
    rw (take_all (length text - next) (drop next text) short, add-one)
    (lines_of-at_feed c.in-Some.end text found.0 found.2 found.1)

pub returns-in-None-clause-lines : goal.returns-in-None-clause-lines
returns-in-None-clause-lines c = lines_of-no_feed c.args.text.now c.requires
    (no_line_feed c.args.text.now (sym c.in-None.ensures))
