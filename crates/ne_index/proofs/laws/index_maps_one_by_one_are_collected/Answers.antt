use Rattle.ne_index.proofs.laws.index_maps_one_by_one_are_collected.Goals as goal
use Rattle.ne_index.proofs.SameEntries.{one_key_list_map}

pub returns-clause-same_entries : goal.returns-clause-same_entries
returns-clause-same_entries g c = λ pairs m n a b.
    one_key_list_map g.met.K.Eq.laws pairs m.entries n.entries a b
