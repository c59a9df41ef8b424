use Rattle.ne_tree.proofs.laws.tree_maps_one_by_one_are_collected.Goals as goal
use Rattle.ne_tree.proofs.TreeInserts.{one_map}

pub returns-clause-same_map : goal.returns-clause-same_map
returns-clause-same_map g c = λ pairs m n a b.
    one_map g.met.K.Ord.total g.met.K.Ord.matches_eq pairs m n a b
