use Rattle.ne_index.proofs.index_map.traits.NEIndexMapStringKeyedMapRefStr.value_mut.Goals as goal
use Rattle.std.proofs.Common.{Some, refl}
use Rattle.std.proofs.lemmas.Map.Text.{hash_map_updates_text}

pub returns : goal.returns
returns g c = (
  (
    refl,
    λ w there. hash_map_updates_text c.args.k.now.now c.args.self.now (c.get_mut.follows.lender w)
        (Some w) ((c.get_mut.follows.holds w).3 there),
    c.get_mut.follows.holds-at-none,
  ),
  record { writes_back = tt; value = c.get_mut.ensures.value },
)
