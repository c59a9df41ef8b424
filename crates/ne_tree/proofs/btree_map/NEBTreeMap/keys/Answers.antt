use Rattle.ne_tree.proofs.btree_map.NEBTreeMap.keys.Goals as goal
use Rattle.std.proofs.Common.{rules}
use Rattle.std.specs.Map.Iter.{deref}
use Rattle.ne_iter.specs.Keyed.IteratorLaws.{lists_known}

pub returns-clause-lists : goal.returns-clause-lists
returns-clause-lists g c = lists_known _ deref c.new.result _ (search rules)
