use Rattle.ne_index.proofs.index_map.NEIndexMap.last_mut.Goals as goal
use Rattle.std.proofs.Common.{◌≡◌, ◌<◌, refl, sym, subst, ◌∙◌}
use Rattle.indexmap.specs.IndexMap.{index_map_len}

pub returns : goal.returns
returns g c =
    let len : index_map_len c.args.self.now ≡ c.len-last.result =
    rw (← c.self.view_is) (sym c.len-last.ensures.len) in
    rw len (
      (refl, λ w. refl),
      record {
        writes_back = tt;
        value = c.value_at.ensures.value;
        stays = λ w. ((c.value_at.ensures.stays w).0, (c.value_at.ensures.stays w).1 ∙ len);
        written = c.value_at.ensures.written;
        updates = c.value_at.ensures.updates;
        valid = (
          subst (λ n. 0 < n) len c.value_at.ensures.valid.0,
          c.value_at.ensures.valid.1,
        );
      },
    )
