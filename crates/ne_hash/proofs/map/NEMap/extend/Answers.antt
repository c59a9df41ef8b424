use Rattle.ne_hash.proofs.map.NEMap.extend.Goals as goal
use Rattle.std.specs.HashMap.{InsertsAll}
use Rattle.ne_iter.specs.Collected.{IsMapOfPairs}
use Rattle.ne_iter.specs.Keyed.ExtendLaws.{extends_by_list}
use Rattle.ne_hash.proofs.HashInserts.{map_of-inserts_all, valid-inserts_all}

pub invariant_of-self : goal.invariant_of-self
invariant_of-self g c = let r = c.extend.ensures.ran in
    valid-inserts_all g.met.K.Eq.laws c.self.inside.inner c.extend.new.self r.1 r.3 c.self.invariant

pub returns-clause-valid : goal.returns-clause-valid
returns-clause-valid = invariant_of-self

pub returns-clause-ran : goal.returns-clause-ran
returns-clause-ran g c =
    let r = c.extend.ensures.ran in
    let added = map_of-inserts_all g.met.K.Eq.laws c.self.inside.inner c.extend.new.self r.1 r.3
    c.self.invariant.1 in
    rw (← c.self.view_is) (r.0, r.1, r.2, added, r.4)

pub returns-clause-lists : goal.returns-clause-lists
returns-clause-lists g c =
    let m = c.self.inside.inner in
    let n = c.extend.new.self in
    rw (← c.self.view_is) (extends_by_list _ _ c.args.iter (InsertsAll g.K.PartialEq.eq) m n
    c.extend.result m.entries (λ all. IsMapOfPairs g.K.PartialEq.eq all n.entries)
    (λ ys made. map_of-inserts_all g.met.K.Eq.laws m n ys made c.self.invariant.1)
    c.extend.ensures.ran)
