use Rattle.ne_laws.proofs.sets.NESetNonEmptySet.put.Goals as goal
use Rattle.ne_laws.proofs.SetItems.{hashed_puts}

pub returns-clause-puts : goal.returns-clause-puts
returns-clause-puts g c =
    hashed_puts g.met.T.Eq.laws c.args.x c.args.self.now.keys c.replace.new.self.keys
    c.replace.result c.replace.ensures.valid.1 c.replace.ensures.old c.replace.ensures.keys
    c.replace.ensures.len
