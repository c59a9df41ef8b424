use Rattle.ne_tree.proofs.btree_map.traits.NEBTreeMapPartialEq.eq.Goals as goal
use Rattle.std.proofs.Common.{rules}
use Rattle.ne_tree.proofs.MapEq.{equal_iff_same}

pub returns-clause-same_map : goal.returns-clause-same_map
returns-clause-same_map g c =
    equal_iff_same g.V.PartialEq.eq g.met.K.Ord.total g.met.K.Ord.matches_eq c.args.self.now.entries
    c.args.other.now.entries (search rules) (search rules) _ (search rules)
