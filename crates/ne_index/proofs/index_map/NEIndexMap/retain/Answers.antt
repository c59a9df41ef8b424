use Rattle.ne_index.proofs.index_map.NEIndexMap.retain.Goals as goal
use Rattle.ne_iter.specs.Keyed.KeptEntryLaws.{retains_filtered, retains_kept, retains_keys}

pub returns-then-is_empty-clause-kept : goal.returns-then-is_empty-clause-kept
returns-then-is_empty-clause-kept g c keeps writes acts = rw (← c.self.view_is)
    (retains_kept _ keeps writes c.args.f acts _ _ c.retain.ensures.filtered)

pub returns-else-is_empty-clause-kept : goal.returns-else-is_empty-clause-kept
returns-else-is_empty-clause-kept g c keeps writes acts = rw (← c.self.view_is)
    (retains_kept _ keeps writes c.args.f acts _ _ c.retain.ensures.filtered)

pub returns-then-is_empty-clause-filtered : goal.returns-then-is_empty-clause-filtered
returns-then-is_empty-clause-filtered g c keeps tests = rw (← c.self.view_is)
    (retains_filtered _ keeps c.args.f tests _ _ c.retain.ensures.filtered)

pub returns-else-is_empty-clause-filtered : goal.returns-else-is_empty-clause-filtered
returns-else-is_empty-clause-filtered g c keeps tests = rw (← c.self.view_is)
    (retains_filtered _ keeps c.args.f tests _ _ c.retain.ensures.filtered)

pub returns-then-is_empty-clause-keys : goal.returns-then-is_empty-clause-keys
returns-then-is_empty-clause-keys g c keeps tests = rw (← c.self.view_is)
    (retains_keys _ keeps c.args.f tests _ _ c.retain.ensures.filtered)

pub returns-else-is_empty-clause-keys : goal.returns-else-is_empty-clause-keys
returns-else-is_empty-clause-keys g c keeps tests = rw (← c.self.view_is)
    (retains_keys _ keeps c.args.f tests _ _ c.retain.ensures.filtered)
