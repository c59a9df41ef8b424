use Rattle.ne_laws.proofs.maps.NEBTreeMapNonEmptyMap.put.Goals as goal
use Rattle.std.proofs.Common.{rules, ◌≡◌, IfOk, OnOk}
use Rattle.std.specs.Map.{lookup}
use Rattle.ne_laws.specs.Maps.{Puts}
use Rattle.ne_laws.proofs.ByEquality.{by_eq, is_map}

pub returns-clause-old : goal.returns-clause-old
returns-clause-old g c =
    by_eq g.K.PartialEq.eq g.K.Ord.cmp g.met.K.Ord.matches_eq
    (λ e. IfOk c.insert.result (λ old. old ≡ lookup (e c.args.k) c.args.self.now.entries))
    c.insert.ensures.old

pub returns-clause-puts : goal.returns-clause-puts
returns-clause-puts g c =
    by_eq g.K.PartialEq.eq g.K.Ord.cmp g.met.K.Ord.matches_eq
    (λ e. OnOk c.insert.result
    (Puts e c.args.self.now.entries c.args.k c.args.v c.insert.new.self.entries))
    (search rules)

pub returns-clause-map : goal.returns-clause-map
returns-clause-map g c =
    is_map g.K.PartialEq.eq g.K.Ord.cmp g.met.K.Ord.matches_eq c.insert.new.self
    c.insert.ensures.valid.1 c.insert.ensures.valid.0
