use Rattle.ne_iter.proofs.iter.divided.DividedIntoIterator.into_iter.Goals as goal
use Rattle.std.proofs.Common.{refl}
use Rattle.ne_iter.proofs.Grouped.{yields_runs}

pub returns : goal.returns
returns g c = record {
  into_iter_gives = (
    c.into_iter.ensures.into_iter_gives,
    refl,
    refl,
    yields_runs g.I.IntoIter.Iterator.next_gives g.C.Division.how _ refl g.C.Division.whole
        g.met.C.Division.divided,
  );
}
