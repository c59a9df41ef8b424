use Rattle.user_calls.proofs.own_maps.PairMapNonEmptyMap.has.Goals as goal
use Rattle.std.proofs.Common.{rules}
use Rattle.user_calls.proofs.PairLists.{is_there}

pub returns : goal.returns
returns g c =
    let there = is_there (g.K.PartialEq.eq c.args.k.now) c.args.self.now in search rules
