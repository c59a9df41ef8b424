use Rattle.ne_index.proofs.index_set.NEIndexSet.replace.Goals as goal
use Rattle.std.proofs.Common.{◌∙◌}
use Rattle.ne_index.proofs.Put.{put_in_place-replace, replaced-last}

pub returns-clause-keys : goal.returns-clause-keys
returns-clause-keys g c = rw (← c.self.view_is) (c.in_ok-replace.ensures.keys
    ∙ put_in_place-replace g.T.PartialEq.eq c.self.inside.inner.keys c.args.value)

pub returns-clause-new_last : goal.returns-clause-new_last
returns-clause-new_last g c = rw (← c.self.view_is) (replaced-last g.T.PartialEq.eq
    c.self.inside.inner.keys c.args.value c.in_ok-replace.field-0 c.replace.new.self.keys
    c.in_ok-replace.ensures.old c.in_ok-replace.ensures.keys)
