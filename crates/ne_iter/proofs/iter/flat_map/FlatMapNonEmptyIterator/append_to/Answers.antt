use Rattle.ne_iter.proofs.iter.flat_map.FlatMapNonEmptyIterator.append_to.Goals as goal
use Rattle.std.proofs.Common.{◌≡◌, refl, sym, subst, true}
use Rattle.std.specs.Prelude.{None}
use Rattle.std.specs.Iterator.{DrainsIf}
use Rattle.std.specs.Iterator.Adapters.{flatten_steps, map_steps}
use Rattle.std.specs.Result.{is_ok}
use Rattle.ne_iter.proofs.Appended.{list_appended_if_ok}
use Rattle.ne_iter.proofs.FlattenRuns.{begins_flat_map, flatten_of, DrainsIf-flattened}

pub append_each-requires : goal.append_each-requires
append_each-requires g c =
    let ready = c.requires (flatten_of c.map.result None)
    (begins_flat_map g.I.IntoIter.Iterator.next_gives g.U.IntoIterator.into_iter_gives
    g.U.IntoIter.Iterator.next_gives g.F.FnMut c.map.result c.args.self.f
    (subst (g.I.IntoIterator.into_iter_gives c.args.self.iter) (sym c.map.ensures.source)
    c.into_iter.ensures.into_iter_gives) c.map.ensures.closure) in
    let source = ready.0.0.0 refl in
    (source.0, ready.0.0.1, source.1)

pub returns-clause-gives : goal.returns-clause-gives
returns-clause-gives g c =
    let steps = g.I.IntoIter.Iterator.next_gives in
    let becomes = g.U.IntoIterator.into_iter_gives in
    let inner = g.U.IntoIter.Iterator.next_gives in
    let appended = c.append_each.ensures in
    let parts = appended.1 in
    let it = flatten_of c.map.result None in (
      appended.0,
      record {
        it = it;
        made = begins_flat_map steps becomes inner g.F.FnMut c.map.result c.args.self.f
            (subst (g.I.IntoIterator.into_iter_gives c.args.self.iter) (sym c.map.ensures.source)
            c.into_iter.ensures.into_iter_gives) c.map.ensures.closure;
        given = subst (DrainsIf (flatten_steps (map_steps steps g.F.FnMut) becomes inner)
            (is_ok c.append_each.result ≡ true) it) (sym parts.is)
            (DrainsIf-flattened (map_steps steps g.F.FnMut) becomes inner
            (is_ok c.append_each.result) c.map.result parts.sources parts.lists parts.read
            parts.read_each);
      },
      appended.2,
    )

pub returns-clause-lists : goal.returns-clause-lists
returns-clause-lists g c = list_appended_if_ok _ _ c.args.self c.args.items.now.items
    c.append_each.new.items.items c.append_each.result (returns-clause-gives g c)
