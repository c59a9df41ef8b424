use Rattle.ne_index.proofs.index_set.NEIndexSet.insert.Goals as goal
use Rattle.std.proofs.Common.{◌∙◌}
use Rattle.ne_index.proofs.Put.{item-last, put_item-insert}

pub returns-clause-keys : goal.returns-clause-keys
returns-clause-keys g c = rw (← c.self.view_is) (c.in_ok-insert.ensures.keys
    ∙ put_item-insert g.T.PartialEq.eq c.self.inside.inner.keys c.args.value)

pub returns-clause-new_last : goal.returns-clause-new_last
returns-clause-new_last g c = rw (← c.self.view_is) (item-last g.T.PartialEq.eq
    c.self.inside.inner.keys c.args.value c.in_ok-insert.field-0 c.insert.new.self.keys
    c.in_ok-insert.ensures.added c.in_ok-insert.ensures.keys)
