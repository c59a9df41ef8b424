use Rattle.ne_iter.proofs.iter.map.MapIntoIterator.into_iter.Goals as goal
use Rattle.std.proofs.Common.{sym, subst}
use Rattle.ne_iter.specs.Map.{MapsRuns}

pub returns : goal.returns
returns g c =
    let e = sym c.map.ensures.source in
    let steps = g.I.IntoIter.Iterator.next_gives in
    let f = c.args.self.f in
    record {
      into_iter_gives = (
        subst (g.I.IntoIterator.into_iter_gives c.args.self.iter) e
            c.into_iter.ensures.into_iter_gives,
        c.map.ensures.closure,
        subst (λ u. MapsRuns steps g.F.FnMut f u c.map.result) e c.map.ensures.runs,
      );
    }
