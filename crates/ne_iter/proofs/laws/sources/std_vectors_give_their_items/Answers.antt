use Rattle.ne_iter.proofs.laws.sources.std_vectors_give_their_items.Goals as goal
use Rattle.std.proofs.Common.{sym, ap, ◌∙◌, length}
use Rattle.ne_vec.specs.ListLaws.{counted_prefix}

pub returns : goal.returns
returns g c v whole ys h =
    let m = counted_prefix h.it ys (h.made.1 ∙ v.ok.0 ∙ sym (ap length h.made.0)) h.given in
    (m.0, sym h.made.0 ∙ m.1, m.2)
