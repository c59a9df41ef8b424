use Rattle.ne_index.proofs.laws.key_lists_are_sets_in_order.Goals as goal
use Rattle.ne_index.proofs.KeyLists.{key_list-prefix, key_list-set}

pub returns-clause-once : goal.returns-clause-once
returns-clause-once g c = λ xs. key_list-set g.met.K.Eq.laws xs

pub returns-clause-in_order : goal.returns-clause-in_order
returns-clause-in_order g c = λ prefix more. key_list-prefix g.K.PartialEq.eq prefix more
