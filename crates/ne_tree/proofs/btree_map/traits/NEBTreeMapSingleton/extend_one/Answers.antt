use Rattle.ne_tree.proofs.btree_map.traits.NEBTreeMapSingleton.extend_one.Goals as goal
use Rattle.std.proofs.Common.{rules}
use Rattle.ne_tree.proofs.TreeInserts.{map_of-put}

pub returns-clause-added : goal.returns-clause-added
returns-clause-added g c = λ xs h.
    map_of-put g.met.K.Ord.total g.met.K.Ord.matches_eq xs c.args.self.now c.insert.new.self
    (c.args.item.0, c.args.item.1) c.insert.ensures.valid.1 (search rules) h
