use Rattle.ne_laws.proofs.maps.NEBTreeMapNonEmptyMap.set.Goals as goal
use Rattle.std.proofs.Common.{rules}
use Rattle.ne_laws.specs.Maps.{Writes}
use Rattle.ne_laws.proofs.ByEquality.{by_eq, is_map}

pub returns-in_err-place-clause-map : goal.returns-in_err-place-clause-map
returns-in_err-place-clause-map g c =
    rw c.get_mut.follows.holds-at-none (is_map g.K.PartialEq.eq g.K.Ord.cmp
    g.met.K.Ord.matches_eq c.args.self.now c.get_mut.ensures.valid.1
    c.get_mut.ensures.valid.0)

pub returns-clause-writes : goal.returns-clause-writes
returns-clause-writes g c =
    let written = c.get_mut.follows.holds c.replace.new.dest in
    by_eq g.K.PartialEq.eq g.K.Ord.cmp g.met.K.Ord.matches_eq
    (λ e. Writes e c.args.self.now.entries c.args.k.now c.args.v
    (c.get_mut.follows.lender c.replace.new.dest).entries)
    (search rules)

pub returns-clause-map : goal.returns-clause-map
returns-clause-map g c =
    let written = c.get_mut.follows.holds c.replace.new.dest in
    is_map g.K.PartialEq.eq g.K.Ord.cmp g.met.K.Ord.matches_eq
    (c.get_mut.follows.lender c.replace.new.dest) written.4
    (rw written.2 c.get_mut.ensures.valid.0)
