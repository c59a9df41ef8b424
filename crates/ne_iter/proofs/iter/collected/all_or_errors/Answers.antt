use Rattle.ne_iter.proofs.iter.collected.all_or_errors.Goals as goal
use Rattle.std.proofs.Common.{◌≡◌, ◌++◌, ◌∷◌, ◌∙◌, append_assoc, append-nil, ap, arith}
use Rattle.std.proofs.Common.{rules, subst}
use Rattle.std.proofs.Common.{sym}
use Rattle.std.proofs.lemmas.Grind.{common_steps}
use Rattle.std.specs.Iterator.{Yields}
use Rattle.std.specs.List.{filter_map}
use Rattle.std.specs.Prelude.{Ok}
use Rattle.std.specs.Result.{result_err}
use Rattle.ne_iter.specs.Collected.{IsAllOrErrors}
use Rattle.ne_iter.proofs.Errors.{error_more, errors_after, no_error, value_more}
use Rattle.ne_iter.specs.LoopLaws.{Yields-append}

pub loop-item-init : goal.loop-item-init
loop-item-init g c = sym (append-nil c.in_ok-errors.errors)

pub loop-item-preserved-in-Ok : goal.loop-item-preserved-in-Ok
loop-item-preserved-in-Ok g c =
    grind (
      arith,
      common_steps,
      value_more c.loop-item.yielded c.in-Ok._value,
      c.in-Ok.is,
      c.loop-item.invariant,
    )

pub loop-item-preserved : goal.loop-item-preserved
loop-item-preserved g c =
    grind (
      arith,
      common_steps,
      error_more c.loop-item.yielded c.in-Err.e,
      c.in-Err.is,
      c.in_ok-push-in-Err.ensures.added,
      append_assoc,
      c.loop-item.invariant,
    )

pub returns-in_default : goal.returns-in_default
returns-in_default g c =
    let made = c.in_ok-values.ensures in
    let then = rw c.in_default.is at made.1 in
    let same : c.unwrap.result ≡ c.in_ok-values.values.items = search rules in (
      made.0,
      c.in_ok-values.rest,
      then.0,
      subst (λ vs. IsAllOrErrors (c.args.first ∷ made.0) (Ok vs)) (sym same)
          (then.1, ap (filter_map result_err) then.1 ∙ no_error c.in_ok-values.values.items),
    )

pub returns : goal.returns
returns g c =
    let steps = g.I.Iterator.next_gives in
    let made = c.in_ok-values.ensures in
    let then = rw c.in-Some.is at made.1 in
    let more = c.loop-item.yielded in (
      made.0 ++ more,
      c.next.new.self,
      (
        c.loop-item.item-iterator,
        Yields-append steps made.0 more c.args.rest c.in_ok-values.rest c.loop-item.item-iterator
            then.0 (subst (λ q. Yields steps q more c.loop-item.item-iterator)
            c.into_iter-item-iterator.ensures.into_iter_gives c.loop-item.yielded_by),
        c.in-None.ensures.steps,
      ),
      c.loop-item.invariant ∙ ap (λ l. l ++ filter_map result_err more) c.in_ok-errors.ensures
          ∙ sym (ap (λ l. filter_map result_err (l ++ more)) then.3
          ∙ errors_after c.in_ok-values.values.items c.in-Some.e more),
    )
