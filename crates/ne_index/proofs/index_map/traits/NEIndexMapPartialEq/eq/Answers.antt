use Rattle.ne_index.proofs.index_map.traits.NEIndexMapPartialEq.eq.Goals as goal
use Rattle.std.proofs.Common.{◌∙◌, rules, sym}
use Rattle.std.specs.HashMap.Eq.{get_from_hash_map_eq, hash_map_eq_from_get}

pub returns-clause-same_map : goal.returns-clause-same_map
returns-clause-same_map g c =
    let m = c.args.self.now in
    let n = c.args.other.now in
    let is = c.eq.ensures in (
      λ t. get_from_hash_map_eq g.K.PartialEq.eq g.V.PartialEq.eq g.met.K.Eq.laws m n
          (sym (search rules) ∙ t),
      λ h. search rules ∙ hash_map_eq_from_get g.K.PartialEq.eq g.V.PartialEq.eq m n h,
    )
