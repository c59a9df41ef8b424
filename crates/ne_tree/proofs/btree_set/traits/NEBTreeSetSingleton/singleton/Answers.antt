use Rattle.ne_tree.proofs.btree_set.traits.NEBTreeSetSingleton.singleton.Goals as goal
use Rattle.std.proofs.lemmas.Result.{IfOk-weaker}
use Rattle.ne_tree.proofs.TreeInserts.{set_from-one}

pub returns : goal.returns
returns g c = IfOk-weaker c.new.result _ _ (λ s is.
    set_from-one g.met.T.Ord.total g.met.T.Ord.matches_eq c.args.item s is) c.new.ensures.keys
