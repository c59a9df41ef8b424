use Rattle.ne_iter.proofs.laws.sources.vectors_give_their_items.Goals as goal
use Rattle.std.proofs.Common.{sym, ap, ◌∙◌, length}
use Rattle.ne_vec.specs.ListLaws.{counted_prefix}

pub returns : goal.returns
returns g c v whole ys h =
    let m = counted_prefix h.it ys (h.made.2 ∙ sym (ap length h.made.1)) h.given in
    (m.0, sym h.made.1 ∙ m.1, m.2)
