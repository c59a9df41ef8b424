use Rattle.ne_laws.proofs.sets.NESetNonEmptySet.has.Goals as goal
use Rattle.std.proofs.Common.{◌∙◌, sym}
use Rattle.ne_laws.proofs.SetItems.{is_found}

pub returns : goal.returns
returns g c =
    c.contains.ensures ∙ sym (is_found (g.T.PartialEq.eq c.args.x.now) c.args.self.now.keys)
