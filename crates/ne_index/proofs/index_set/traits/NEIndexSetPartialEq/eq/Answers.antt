use Rattle.ne_index.proofs.index_set.traits.NEIndexSetPartialEq.eq.Goals as goal
use Rattle.std.proofs.Common.{◌∙◌, rules, sym}
use Rattle.std.specs.HashSet.Eq.{hash_set_eq_decides}

pub returns-clause-same_set : goal.returns-clause-same_set
returns-clause-same_set g c =
    let both = hash_set_eq_decides g.met.T.Eq.laws c.args.self.now c.args.other.now in (
      λ t. both.0 (sym (search rules) ∙ t),
      λ h. search rules ∙ both.1 h,
    )
