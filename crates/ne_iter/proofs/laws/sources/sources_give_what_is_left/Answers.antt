use Rattle.ne_iter.proofs.laws.sources.sources_give_what_is_left.Goals as goal
use Rattle.std.proofs.Common.{sym, ◌∙◌}
use Rattle.ne_vec.specs.ListLaws.{is_prefix}

pub returns : goal.returns
returns g c left took ended source xs made whole ys h =
    let m = is_prefix g.S.IntoIter.Iterator.next_gives left took ended h.it ys h.given in
    (m.0, sym (made h.it h.made) ∙ m.1, m.2)
