use Rattle.ne_runs.proofs.texts.push_set.Goals as goal
use Rattle.std.proofs.Common.{lit<, sym, subst, ap, ◌≡◌, ◌++◌, ◌∙◌, string_bytes, OnOk}
use Rattle.std.specs.List.{flat_map}
use Rattle.ne_runs.specs.Modes.{row_text}
use Rattle.ne_runs.proofs.Rows.{behind, row_written, walked}

pub returns : goal.returns
returns c =
    let first = c.next-rest.ensures.first in
    let keys = sym c.nonempty_iter.ensures.keys ∙ sym first.1.1 ∙ first.2 in
    let came = walked _ _ c.loop-number.yielded c.loop-number.yielded_by c.in-None.ensures.steps.0
    in
    let whole = c.loop-number.invariant ∙ ap (λ t. string_bytes c.write.new.self ++ t)
    (came ∙ ap (flat_map behind) c.into_iter-number-iterator.ensures.into_iter_gives) in
    subst (λ ks. OnOk c.push.result
    (string_bytes c.push.new.self ≡ string_bytes c.args.text.now ++ row_text ks)) (sym keys)
    (row_written c.push.result _ _ _ _ _ _ c.in_ok-write.ensures.bytes whole
    (rw (c.push.ensures.ascii (lit< tt)) at c.push.ensures.bytes))
