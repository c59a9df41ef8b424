use Rattle.ne_laws.proofs.maps.NEBTreeMapNonEmptyMap.take.Goals as goal
use Rattle.std.proofs.Common.{rules}
use Rattle.ne_laws.specs.Maps.{Takes}
use Rattle.ne_laws.proofs.ByEquality.{by_eq, is_map}

pub returns-clause-takes : goal.returns-clause-takes
returns-clause-takes g c =
    by_eq g.K.PartialEq.eq g.K.Ord.cmp g.met.K.Ord.matches_eq
    (λ e. Takes e c.args.self.now.entries c.args.k.now c.remove.result
    c.remove.new.self.entries)
    (search rules)

pub returns-clause-map : goal.returns-clause-map
returns-clause-map g c =
    is_map g.K.PartialEq.eq g.K.Ord.cmp g.met.K.Ord.matches_eq c.remove.new.self
    c.remove.ensures.valid.1 c.remove.ensures.valid.0
