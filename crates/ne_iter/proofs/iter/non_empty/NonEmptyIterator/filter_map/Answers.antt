use Rattle.ne_iter.proofs.iter.non_empty.NonEmptyIterator.filter_map.Goals as goal
use Rattle.std.proofs.Common.{subst, sym, refl}
use Rattle.std.specs.List.{filter_map}
use Rattle.std.specs.Prelude.{Option}
use Rattle.std.specs.Iterator.{ActsAs}
use Rattle.std.specs.Iterator.Adapters.{filter_map_steps}
use Rattle.ne_vec.specs.Lists.{YieldsPrefixes, Naming}
use Rattle.ne_iter.proofs.Filter.{IsFilterMapped-from_steps, filter_mapped_view}
use Rattle.ne_iter.proofs.Filter.{filter_maps_through}
use Rattle.ne_iter.proofs.SourceLists.{yields_prefixes, each_view}

pub returns-clause-gives : goal.returns-clause-gives
returns-clause-gives g c = IsFilterMapped-from_steps g.Self.IntoIter.Iterator.next_gives g.F.FnMut
    g.Self.IntoIterator.into_iter_gives c.args.self c.args.f c.filter_map.result
    (subst (g.Self.IntoIterator.into_iter_gives c.args.self) (sym c.filter_map.ensures.source)
    c.into_iter.ensures.into_iter_gives) c.filter_map.ensures.closure

pub returns-clause-lists : goal.returns-clause-lists
returns-clause-lists g c = each_view (λ view xs. (h : view.Target → Option _)
    → ActsAs g.F.FnMut c.args.f (λ x. h (view.of x)) → Naming (filter_map h xs) (λ ys.
    YieldsPrefixes (filter_map_steps g.Self.IntoIter.Iterator.next_gives g.F.FnMut) ys
    c.filter_map.result))
    g.Self.NonEmptyIterator.item_view (λ view xs known h acts. (
      refl,
      yields_prefixes c.filter_map.result (filter_map h xs)
          (filter_mapped_view (returns-clause-gives g c) view.of h xs acts known),
    ))

pub returns-clause-through : goal.returns-clause-through
returns-clause-through g c =
    filter_maps_through (returns-clause-gives g c) {it = c.filter_map.result} refl
    g.Self.NonEmptyIterator.item_view
