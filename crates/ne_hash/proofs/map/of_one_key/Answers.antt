use Rattle.ne_hash.proofs.map.of_one_key.Goals as goal
use Rattle.std.proofs.Common.{rules}
use Rattle.ne_hash.proofs.Single.{one_entry}

pub returns-clause-entries : goal.returns-clause-entries
returns-clause-entries g c =
    one_entry g.K.PartialEq.eq c.args.map c.insert.new.self c.args.k c.args.v
    c.in_ok-insert.field-0 (search rules) c.in_ok-insert.ensures.old c.in_ok-insert.ensures.entries
