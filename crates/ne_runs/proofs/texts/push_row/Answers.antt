use Rattle.ne_runs.proofs.texts.push_row.Goals as goal
use Rattle.std.proofs.Common.{lit<}
use Rattle.ne_runs.proofs.Rows.{row_ended}

pub returns : goal.returns
returns c =
    row_ended c.push.result _ _ _ _ c.args.first c.args.rest.now c.loop-number.number-index
    c.in_ok-write.ensures.bytes c.loop-number.invariant c.loop-number-test.false
    (rw (c.push.ensures.ascii (lit< tt)) at c.push.ensures.bytes)
