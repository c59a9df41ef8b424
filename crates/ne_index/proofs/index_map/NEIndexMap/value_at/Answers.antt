use Rattle.ne_index.proofs.index_map.NEIndexMap.value_at.Goals as goal
use Rattle.std.proofs.Common.{◌<◌, refl, sym, subst}
use Rattle.indexmap.proofs.CallerLemmas.{index_map_len-with_value_at, keys-with_value_at}
use Rattle.indexmap.proofs.CallerLemmas.{updates-with_value_at}
use Rattle.indexmap.specs.Layout.{length-set_value_at}
use Rattle.std.specs.List.{IsDistinct}
use Rattle.ne_index.proofs.Put.{value-set_value_at}

pub invariant_of-self-lent : goal.invariant_of-self-lent
invariant_of-self-lent g c w = (
  subst (λ n. 0 < n) (sym (length-set_value_at c.self.inside.inner.entries c.args.index w))
      c.self.invariant.0,
  subst (IsDistinct g.K.PartialEq.eq)
      (sym (keys-with_value_at c.self.inside.inner c.args.index w)) c.self.invariant.1,
)

pub returns : goal.returns
returns g c = (
  (refl, λ w. rw (← c.self.view_is) refl),
  record {
    writes_back = tt;
    value = rw (← c.self.view_is) c.index_mut.ensures.value;
    stays = λ w. (
      keys-with_value_at c.args.self.now c.args.index w,
      index_map_len-with_value_at c.args.self.now c.args.index w,
    );
    written = λ w. value-set_value_at c.args.self.now.entries c.args.index w c.requires;
    updates = λ k v w at. updates-with_value_at c.args.self.now c.args.index w g.met.K.Eq.laws
        (rw (← c.self.view_is) c.self.invariant.1) k v at;
    valid = rw (← c.self.view_is) c.self.invariant;
  },
)
