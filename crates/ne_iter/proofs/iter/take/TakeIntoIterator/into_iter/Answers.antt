use Rattle.ne_iter.proofs.iter.take.TakeIntoIterator.into_iter.Goals as goal
use Rattle.std.proofs.Common.{sym, subst, ◌∙◌}
use Rattle.std.specs.Iterator.Adapters.{take_source}
use Rattle.ne_iter.specs.Take.{TakesRuns}

pub returns : goal.returns
returns g c =
    let e = sym c.take.ensures.source in
    let steps = g.I.IntoIter.Iterator.next_gives in
    record {
      into_iter_gives = (
        subst (g.I.IntoIterator.into_iter_gives c.args.self.iter) e
            c.into_iter.ensures.into_iter_gives,
        c.take.ensures.count ∙ c.get.ensures.value,
        subst (λ m. TakesRuns steps m (take_source c.take.result) c.take.result) c.get.ensures.value
            (subst (λ u. TakesRuns steps c.get.result u c.take.result) e c.take.ensures.runs),
      );
    }
