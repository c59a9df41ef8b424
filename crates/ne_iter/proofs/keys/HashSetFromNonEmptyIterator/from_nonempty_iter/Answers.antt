use Rattle.ne_iter.proofs.keys.HashSetFromNonEmptyIterator.from_nonempty_iter.Goals as goal
use Rattle.ne_iter.specs.CollectedLaws.{collects}
use Rattle.ne_iter.proofs.Collects.{hash_set_made}

pub returns : goal.returns
returns g c =
    collects g.met.I.IntoNonEmptyIterator.same_lists g.met.I.IntoNEIter.NonEmptyIterator.not_empty
    c.args.iter c.into_nonempty_iter.result c.into_iter.result
    c.into_nonempty_iter.ensures.into_nonempty_iter_gives c.into_iter.ensures.into_iter_gives
    _ _ (hash_set_made g.met.T.Eq.laws) c.collect.result c.collect.ensures.ran
