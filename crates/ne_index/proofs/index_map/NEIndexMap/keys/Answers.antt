use Rattle.ne_index.proofs.index_map.NEIndexMap.keys.Goals as goal
use Rattle.std.proofs.Common.{ap, rules, sym, ◌∙◌}
use Rattle.std.proofs.lemmas.Map.Made.{is_some-lookup}
use Rattle.std.specs.Set.{is_member}
use Rattle.std.specs.Map.Iter.{deref}
use Rattle.ne_iter.specs.Keyed.IteratorLaws.{lists_known}

pub returns-clause-lists : goal.returns-clause-lists
returns-clause-lists g c = lists_known _ deref c.new.result _ (search rules)

pub returns-clause-found : goal.returns-clause-found
returns-clause-found g c = λ q. rw (← c.self.view_is)
    (is_some-lookup (g.K.PartialEq.eq q) c.self.inside.inner.entries
    ∙ ap (λ ks. is_member g.K.PartialEq.eq ks q) (sym (c.new.ensures ∙ c.keys.ensures.rest)))
