use Rattle.ne_tree.proofs.laws.tree_sets_one_by_one_are_collected.Goals as goal
use Rattle.ne_tree.proofs.TreeInserts.{one_set}

pub returns-clause-same_set : goal.returns-clause-same_set
returns-clause-same_set g c = λ items s t a b.
    one_set g.met.T.Ord.total g.met.T.Ord.matches_eq items s t a.0 b.0
