use Rattle.ne_iter.proofs.iter.non_empty.NonEmptyIterator.flat_map.Goals as goal
use Rattle.std.proofs.Common.{subst}
use Rattle.std.specs.Iterator.Adapters.{map_source, flatten_source, map_steps}
use Rattle.ne_iter.specs.Calls.{Calls}
use Rattle.ne_iter.proofs.Map.{DrainsIf-map}
use Rattle.ne_iter.proofs.Flatten.{DrainsIf-flatten}
use Rattle.ne_iter.proofs.FlatMap.{flat_map_list, spreads_lists, spreads_views}

pub returns-clause-gives : goal.returns-clause-gives
returns-clause-gives g c whole zs h =
    let p = DrainsIf-flatten (map_steps g.Self.IntoIter.Iterator.next_gives g.F.FnMut)
    g.U.IntoIterator.into_iter_gives g.U.IntoIter.Iterator.next_gives whole h.it zs h.made.2
    h.made.3 h.made.4 h.given in
    let q = DrainsIf-map g.Self.IntoIter.Iterator.next_gives g.F.FnMut (flatten_source h.it) p.0 p.2
    in record {
      items = q.0;
      sources = p.0;
      lists = p.1;
      f_then = q.1;
      read = record { it = map_source (flatten_source h.it); made = h.made.0; given = q.2 };
      called = subst (λ f. Calls g.F.FnMut f q.0 p.0 q.1) h.made.1 q.3;
      read_each = p.3;
      is = p.4;
    }

pub returns-clause-lists : goal.returns-clause-lists
returns-clause-lists g c =
    let same = g.met.U.IntoNonEmptyIterator.same_lists in
    let gives = returns-clause-gives g c in (
      spreads_lists same (flat_map_list gives),
      spreads_views same gives g.Self.NonEmptyIterator.item_view
          g.U.IntoNEIter.NonEmptyIterator.item_view,
    )
