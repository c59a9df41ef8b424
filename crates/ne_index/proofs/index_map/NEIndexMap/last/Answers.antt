use Rattle.ne_index.proofs.index_map.NEIndexMap.last.Goals as goal
use Rattle.std.proofs.Common.{ap, sym, ◌∙◌}
use Rattle.std.proofs.lemmas.Map.Entries.{lookup_from_place}
use Rattle.std.specs.Map.Iter.{deref_pair}
use Rattle.std.specs.Option.{option_map}

pub returns-clause-value : goal.returns-clause-value
returns-clause-value g c = rw (← c.self.view_is)
    (lookup_from_place g.met.K.Eq.laws c.self.inside.inner.entries _ _ _ c.self.invariant.1
    (sym c.last.ensures.entry ∙ ap (option_map deref_pair) c.unwrap.ensures))
