use Rattle.ne_tree.proofs.btree_map.traits.NEBTreeMapSingleton.singleton.Goals as goal
use Rattle.std.proofs.lemmas.Result.{IfOk-weaker}
use Rattle.ne_iter.specs.CollectedLaws.{map_of-one}

pub returns : goal.returns
returns g c = IfOk-weaker c.new.result _ _
    (λ m is. (map_of-one g.K.PartialEq.eq c.args.item m.entries is).0) c.new.ensures.entries
