use Rattle.ne_tree.proofs.btree_set.traits.NEBTreeSetPartialEq.eq.Goals as goal
use Rattle.std.proofs.Common.{rules}
use Rattle.ne_tree.proofs.SetEq.{equal_iff_same}

pub returns-clause-same_set : goal.returns-clause-same_set
returns-clause-same_set g c =
    equal_iff_same g.met.T.Ord.total g.met.T.Ord.matches_eq c.args.self.now.keys
    c.args.other.now.keys (search rules) (search rules) _ (search rules)
