use Rattle.ne_tree.proofs.btree_map.NEBTreeMap.into_keys.Goals as goal
use Rattle.std.proofs.Common.{rules}
use Rattle.std.proofs.lemmas.Map.Made.{is_some-lookup}
use Rattle.std.specs.BTreeMap.{is_at}
use Rattle.ne_iter.specs.Keyed.IteratorLaws.{lists_known}

pub returns-clause-lists : goal.returns-clause-lists
returns-clause-lists g c = lists_known _ (λ x. x) c.new.result _ (search rules)

pub returns-clause-found : goal.returns-clause-found
returns-clause-found g c q =
    rw (c.new.ensures, c.into_keys.ensures.rest, ← c.self.view_is)
    (is_some-lookup (is_at (g.K.Ord.cmp q)) c.self.inside.inner.entries)
