use Rattle.ne_index.proofs.index_map.NEIndexMap.or_insert.Goals as goal
use Rattle.std.proofs.Common.{refl, sym, ap, ◌∙◌, unwrap_or}
use Rattle.indexmap.specs.IndexMap.{with_value_at}
use Rattle.ne_index.proofs.PutLookups.{put-updates}

pub returns : goal.returns
returns g c = (
  (
    refl,
    (λ w ok. (
      c.in_ok-index.ensures.written w,
      put-updates g.met.K.Eq.laws c.args.k w c.args.self.now
          (with_value_at c.index_or_insert.new.self c.in_ok-index.index w)
          (c.in_ok-index.ensures.written w),
      c.index_or_insert.ensures.hasher,
    )),
    tt,
  ),
  record {
    writes_back = tt;
    value = ap (λ o. unwrap_or o c.args.v)
        (sym c.value_at.ensures.value ∙ c.in_ok-index.ensures.value);
    refused = tt;
    valid = c.index_or_insert.ensures.valid;
  },
)
