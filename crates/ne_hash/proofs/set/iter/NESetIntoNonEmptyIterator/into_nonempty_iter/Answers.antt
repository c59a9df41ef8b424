use Rattle.ne_hash.proofs.set.iter.NESetIntoNonEmptyIterator.into_nonempty_iter.Goals as goal
use Rattle.std.proofs.Common.{rules}
use Rattle.ne_iter.specs.Keyed.IteratorLaws.{lists_known}

pub returns : goal.returns
returns g c = record {
  into_nonempty_iter_gives = (
    search rules,
    search rules,
    lists_known _ (λ x. x) c.new.result _ (search rules),
  );
}
