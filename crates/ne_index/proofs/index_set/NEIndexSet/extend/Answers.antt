use Rattle.ne_index.proofs.index_set.NEIndexSet.extend.Goals as goal
use Rattle.indexmap.specs.IndexSet.{Extends}
use Rattle.ne_iter.specs.Keyed.ExtendLaws.{extends_by_list}
use Rattle.ne_index.specs.KeyListSets.{IsKeyListSetOf}
use Rattle.ne_index.proofs.IndexInserts.{key_list_set-extends, valid_set-extends}

pub invariant_of-self : goal.invariant_of-self
invariant_of-self g c = let r = c.extend.ensures.ran in
    valid_set-extends g.met.T.Eq.laws c.self.inside.inner c.extend.new.self r.1 r.3
    c.self.invariant

pub returns-clause-valid : goal.returns-clause-valid
returns-clause-valid = invariant_of-self

pub returns-clause-ran : goal.returns-clause-ran
returns-clause-ran g c =
    let r = c.extend.ensures.ran in
    let added = key_list_set-extends g.met.T.Eq.laws c.self.inside.inner c.extend.new.self r.1 r.3
    c.self.invariant.1 in
    rw (← c.self.view_is) (r.0, r.1, r.2, (added, r.3.2.1), r.4)

pub returns-clause-lists : goal.returns-clause-lists
returns-clause-lists g c =
    let s = c.self.inside.inner in
    let t = c.extend.new.self in
    rw (← c.self.view_is) (extends_by_list _ _ c.args.iter (Extends g.T.PartialEq.eq) s t
    c.extend.result s.keys (λ all. IsKeyListSetOf g.T.PartialEq.eq all t.keys)
    (λ ys made. key_list_set-extends g.met.T.Eq.laws s t ys made c.self.invariant.1)
    c.extend.ensures.ran)
