use Rattle.ne_index.proofs.index_set.traits.NEIndexSetSingleton.extend_one.Goals as goal
use Rattle.std.proofs.Common.{rules}
use Rattle.ne_index.proofs.IndexInserts.{key_list_set-put}

pub returns-clause-added : goal.returns-clause-added
returns-clause-added g c = λ xs h.
    key_list_set-put g.met.T.Eq.laws xs c.args.self.now c.insert.new.self c.args.item
    c.insert.ensures.valid.1 (search rules) (search rules) h
