use Rattle.ne_iter.proofs.iter.collected.FromNonEmptyIterator.from_drained.Goals as goal
use Rattle.std.proofs.Common.{◌≡◌, length, rules, sym, ap, subst, ◌∙◌}
use Rattle.std.proofs.lemmas.Result.{IfOk-weaker}
use Rattle.std.specs.Prelude.{IfOk}
use Rattle.ne_vec.specs.ListLaws.{counted_prefix}
use Rattle.ne_iter.specs.Collected.{PrefixMakes}
use Rattle.ne_iter.proofs.PrefixesMade.{prefix_makes}

pub returns-clause-made : goal.returns-clause-made
returns-clause-made g c =
    let makes = PrefixMakes g.Self.FromNonEmptyIterator.collected
    g.Self.FromNonEmptyIterator.is_complete in
    let same : c.unwrap-items.result ≡ c.args.items.now.items = search rules in
    subst (λ xs. IfOk c.from_nonempty_iter.result (makes xs))
    same
    (IfOk-weaker c.from_nonempty_iter.result _ _ (λ v made.
    let run = made.1 in
    let rest = counted_prefix run.it made.0 (run.made.2 ∙ sym (ap length run.made.1)) run.given in
    prefix_makes g.Self.FromNonEmptyIterator.collected v c.unwrap-items.result made.0
    g.Self.FromNonEmptyIterator.is_complete (rest.0, sym run.made.1 ∙ rest.1, rest.2) made.2)
    c.from_nonempty_iter.ensures)
