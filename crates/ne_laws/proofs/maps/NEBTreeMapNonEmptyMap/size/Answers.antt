use Rattle.ne_laws.proofs.maps.NEBTreeMapNonEmptyMap.size.Goals as goal
use Rattle.ne_laws.proofs.ByEquality.{is_map}

pub returns-clause-map : goal.returns-clause-map
returns-clause-map g c =
    is_map g.K.PartialEq.eq g.K.Ord.cmp g.met.K.Ord.matches_eq c.args.self.now
    c.len.ensures.valid.1 c.len.ensures.valid.0
