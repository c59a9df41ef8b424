use Rattle.ne_laws.proofs.sets.NEIndexSetNonEmptySet.put.Goals as goal
use Rattle.ne_laws.proofs.SetItems.{indexed_puts}

pub returns-clause-puts : goal.returns-clause-puts
returns-clause-puts g c =
    indexed_puts g.met.T.Eq.laws c.args.x c.args.self.now.keys c.replace.new.self.keys
    c.replace.result c.replace.ensures.old c.replace.ensures.keys
    c.replace.ensures.len
