use Rattle.ne_iter.proofs.iter.non_empty.NonEmptyIterator.map.Goals as goal
use Rattle.std.proofs.Common.{subst}
use Rattle.std.specs.Iterator.Adapters.{map_source}
use Rattle.ne_iter.specs.Calls.{Calls}
use Rattle.ne_iter.proofs.Map.{DrainsIf-map, maps_lists, maps_through}

pub returns-clause-gives : goal.returns-clause-gives
returns-clause-gives g c whole ys h =
    let p = DrainsIf-map g.Self.IntoIter.Iterator.next_gives g.F.FnMut h.it ys h.given in
    record {
      items = p.0;
      f_then = p.1;
      read = record { it = map_source h.it; made = h.made.0; given = p.2 };
      called = subst (λ f. Calls g.F.FnMut f p.0 ys p.1) h.made.1 p.3;
    }

pub returns-clause-lists : goal.returns-clause-lists
returns-clause-lists g c =
    maps_lists g.Self.NonEmptyIterator.item_view (returns-clause-gives g c)

pub returns-clause-through : goal.returns-clause-through
returns-clause-through g c =
    maps_through (returns-clause-gives g c) g.Self.NonEmptyIterator.item_view
