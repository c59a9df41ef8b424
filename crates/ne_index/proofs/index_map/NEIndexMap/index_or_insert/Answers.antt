use Rattle.ne_index.proofs.index_map.NEIndexMap.index_or_insert.Goals as goal
use Rattle.std.proofs.Common.{sym, ◌∙◌}
use Rattle.indexmap.specs.IndexMap.{get}
use Rattle.ne_index.proofs.PutLookups.{value-inserted, value-new, written-found, written-inserted}

pub returns-in-Some-clause-written : goal.returns-in-Some-clause-written
returns-in-Some-clause-written g c w = rw (← c.self.view_is) (written-found g.K.PartialEq.eq
    c.args.k c.self.inside.inner.entries _ (sym c.in-Some.ensures.index) w)

pub returns-clause-written : goal.returns-clause-written
returns-clause-written g c w = rw (
  ← c.self.view_is,
  c.in_ok-index.ensures.entries,
  c.in_ok-index.ensures.index,
) (written-inserted g.K.PartialEq.eq c.args.k c.args.v
    c.self.inside.inner.entries w)

pub returns-clause-value : goal.returns-clause-value
returns-clause-value g c = rw (
  ← c.self.view_is,
  c.in_ok-index.ensures.entries,
  c.in_ok-index.ensures.index,
) (value-inserted g.K.PartialEq.eq c.args.k c.args.v
    c.self.inside.inner.entries ∙ value-new g.K.PartialEq.eq c.args.k
    (get g.K.PartialEq.eq c.self.inside.inner c.args.k) c.args.v
    (sym c.in_default.ensures.found))
