use Rattle.ne_iter.proofs.iter.intersperse.IntersperseIntoIterator.into_iter.Goals as goal
use Rattle.std.proofs.Common.{refl}
use Rattle.ne_iter.proofs.Intersperse.{runs_interspersed}

pub returns : goal.returns
returns g c = record {
  into_iter_gives = (
    refl,
    refl,
    refl,
    refl,
    runs_interspersed g.I.Iterator.next_gives g.I.Item.Clone.is_clone g.I.Item.Clone.is_infallible
        c.args.self.separator c.args.self.first c.args.self.rest _ (refl, refl, refl) refl,
  );
}
