use Rattle.std.proofs.Common.{rules}
use Rattle.std.specs.Map.Iter.{deref}
use Rattle.ne_iter.specs.KeyWalkLaws.{key_walk_shows}
use Rattle.ne_index.proofs.index_map.NEIndexMap.values.Goals as goal

pub returns-clause-shows : goal.returns-clause-shows
returns-clause-shows g c = key_walk_shows deref c.values.result _ (search rules)
