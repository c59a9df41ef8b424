use Rattle.ne_iter.proofs.array.RefArrayIntoNonEmptyIterator.into_nonempty_iter.Goals as goal
use Rattle.std.proofs.Common.{rules, ◌≡◌, ◌∙◌}
use Rattle.ne_vec.specs.IteratorLaws.{lists_items}

pub returns : goal.returns
returns g c =
    let e : c.from.result ≡ c.args.self.now =
    c.from.ensures ∙ (search rules) in
    record { into_nonempty_iter_gives = (e, search rules, lists_items _ _ e) }
