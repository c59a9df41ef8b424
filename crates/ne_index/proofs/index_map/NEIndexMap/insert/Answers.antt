use Rattle.ne_index.proofs.index_map.NEIndexMap.insert.Goals as goal
use Rattle.std.proofs.Common.{ap, ◌∙◌}
use Rattle.std.specs.Map.{keys_of}
use Rattle.indexmap.proofs.SetLemmas.{keys_insert_entry}
use Rattle.ne_index.proofs.Put.{keys-stay, new-last, put_entry-insert, put_item-insert}

pub returns-clause-entries : goal.returns-clause-entries
returns-clause-entries g c = rw (← c.self.view_is) (c.in_ok-insert.ensures.entries
    ∙ put_entry-insert g.K.PartialEq.eq c.self.inside.inner.entries c.args.k c.args.v)

pub returns-clause-keys : goal.returns-clause-keys
returns-clause-keys g c = rw (← c.self.view_is) (ap keys_of c.in_ok-insert.ensures.entries
    ∙ keys_insert_entry g.K.PartialEq.eq c.self.inside.inner.entries c.args.k c.args.v
    ∙ put_item-insert g.K.PartialEq.eq (keys_of c.self.inside.inner.entries) c.args.k)

pub returns-clause-new_last : goal.returns-clause-new_last
returns-clause-new_last g c = rw (← c.self.view_is) (new-last g.K.PartialEq.eq
    c.self.inside.inner c.args.k c.args.v c.in_ok-insert.field-0 c.insert.new.self.entries
    c.in_ok-insert.ensures.old c.in_ok-insert.ensures.entries)

pub returns-clause-keys_stay : goal.returns-clause-keys_stay
returns-clause-keys_stay g c = rw (← c.self.view_is) (keys-stay g.K.PartialEq.eq
    c.self.inside.inner c.args.k c.args.v c.in_ok-insert.field-0 c.insert.new.self.entries
    c.in_ok-insert.ensures.old c.in_ok-insert.ensures.entries)
