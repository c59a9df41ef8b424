use Rattle.ne_laws.proofs.sets.NEBTreeSetNonEmptySet.size.Goals as goal
use Rattle.ne_laws.proofs.ByEquality.{is_set}

pub returns-clause-set : goal.returns-clause-set
returns-clause-set g c =
    is_set g.T.PartialEq.eq g.T.Ord.cmp g.met.T.Ord.matches_eq c.args.self.now
    c.len.ensures.valid.1 c.len.ensures.valid.0
