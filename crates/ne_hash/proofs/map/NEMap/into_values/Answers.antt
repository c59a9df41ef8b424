use Rattle.ne_hash.proofs.map.NEMap.into_values.Goals as goal
use Rattle.std.proofs.Common.{rules}
use Rattle.std.proofs.lemmas.Map.Entries.{place_from_lookup}
use Rattle.std.proofs.lemmas.Map.Made.{Contains-values_of}
use Rattle.std.proofs.lemmas.Option.{slice_get_within, get_or_from_slice_get}
use Rattle.ne_iter.specs.Keyed.IteratorLaws.{lists_known}

pub returns-clause-lists : goal.returns-clause-lists
returns-clause-lists g c = lists_known _ (λ x. x) c.new.result _ (search rules)

pub returns-clause-found : goal.returns-clause-found
returns-clause-found g c k v found =
    let es = c.self.inside.inner.entries in
    let at = place_from_lookup (g.K.PartialEq.eq k) es v (rw c.self.view_is found) in
    rw (c.new.ensures, c.into_values.ensures.rest)
    (Contains-values_of es at.1 v (
      at.0,
      slice_get_within es at.0 (at.1, v) at.2,
      get_or_from_slice_get es at.0 (at.1, v) (at.1, v) at.2,
    ))
