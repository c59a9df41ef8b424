use Rattle.ne_index.proofs.index_map.NEIndexMap.clone.Goals as goal
use Rattle.ne_iter.specs.Keyed.CloneLaws.{keeps_entries}

pub returns : goal.returns
returns g c = let made = c.in_ok-inner.ensures.cases in record {
  clones = rw (c.wrap.ensures, ← c.self.view_is) (made, keeps_entries _ _ _ _ made);
}
