use Rattle.ne_tree.proofs.btree_set.NEBTreeSet.extend.Goals as goal
use Rattle.std.specs.BTreeSet.{InsertsAll}
use Rattle.ne_iter.specs.Collected.{IsSetOf}
use Rattle.ne_iter.specs.Keyed.ExtendLaws.{extends_by_list}
use Rattle.ne_tree.proofs.TreeInserts.{set_of-inserts_all, valid_set-inserts_all}

pub invariant_of-self : goal.invariant_of-self
invariant_of-self g c = let r = c.extend.ensures.ran in
    valid_set-inserts_all g.met.T.Ord.total c.self.inside.inner c.extend.new.self r.1 r.3
    c.self.invariant

pub returns-clause-valid : goal.returns-clause-valid
returns-clause-valid = invariant_of-self

pub returns-clause-ran : goal.returns-clause-ran
returns-clause-ran g c =
    let r = c.extend.ensures.ran in
    let added = set_of-inserts_all g.met.T.Ord.total g.met.T.Ord.matches_eq c.self.inside.inner
    c.extend.new.self r.1 r.3 in
    rw (← c.self.view_is) (r.0, r.1, r.2, added, r.4)

pub returns-clause-lists : goal.returns-clause-lists
returns-clause-lists g c =
    let s = c.self.inside.inner in
    let t = c.extend.new.self in
    rw (← c.self.view_is) (extends_by_list _ _ c.args.iter (InsertsAll g.T.Ord.cmp) s t
    c.extend.result s.keys (λ all. IsSetOf g.T.PartialEq.eq all t.keys)
    (λ ys made. set_of-inserts_all g.met.T.Ord.total g.met.T.Ord.matches_eq s t ys made)
    c.extend.ensures.ran)
