use Rattle.ne_hash.proofs.set.of_one_item.Goals as goal
use Rattle.std.proofs.Common.{rules}
use Rattle.ne_hash.proofs.Single.{one_item}

pub returns-clause-keys : goal.returns-clause-keys
returns-clause-keys g c =
    one_item g.T.PartialEq.eq c.args.set c.insert.new.self c.args.value c.in_ok-insert.field-0
    (search rules) c.in_ok-insert.ensures.added c.in_ok-insert.ensures.keys
