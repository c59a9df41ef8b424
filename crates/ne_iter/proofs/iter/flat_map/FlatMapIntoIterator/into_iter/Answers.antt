use Rattle.ne_iter.proofs.iter.flat_map.FlatMapIntoIterator.into_iter.Goals as goal
use Rattle.std.proofs.Common.{sym, subst}
use Rattle.ne_iter.specs.FlatMap.{FlatMapsRuns}

pub returns : goal.returns
returns g c =
    let e = sym c.flat_map.ensures.source in
    record {
      into_iter_gives = (
        subst (g.I.IntoIterator.into_iter_gives c.args.self.iter) e
            c.into_iter.ensures.into_iter_gives,
        c.flat_map.ensures.closure,
        c.flat_map.ensures.front,
        c.flat_map.ensures.back,
        c.flat_map.ensures.done,
        subst (λ u. FlatMapsRuns g.I.IntoIter.Iterator.next_gives g.U.IntoIterator.into_iter_gives
            g.U.IntoIter.Iterator.next_gives g.F.FnMut c.args.self.f u c.flat_map.result) e
            c.flat_map.ensures.runs,
      );
    }
