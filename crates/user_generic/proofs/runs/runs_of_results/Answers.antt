use Rattle.user_generic.proofs.runs.runs_of_results.Goals as goal
use Rattle.std.proofs.Common.{rules, true, refl, subst}
use Rattle.std.proofs.lemmas.Result.{IfOk-weaker}
use Rattle.ne_iter.specs.GroupBy.{and_held}
use Rattle.ne_iter.specs.Sources.{Reads}
use Rattle.ne_iter.specs.Keys.{items_of, DividesByKey}

-- From the runs collected back to what `map` returned, and to the source's items.
pub returns : goal.returns
returns g c = IfOk-weaker c.in_ok-collect.field-0 _ _ (λ v h.
    let runs = c.group_by.ensures.gives.0 true v h in
    let end = runs.over refl in
    let mapped = c.map.ensures.gives runs.ended (items_of runs.drawn) runs.read in record {
      items = mapped.items;
      results = runs.drawn;
      f_then = mapped.f_then;
      key_then = runs.closure;
      read = subst (λ whole. Reads g.S.IntoIterator.into_iter_gives
          g.S.IntoIter.Iterator.next_gives whole c.args.source mapped.items) end.0 mapped.read;
      called = mapped.called;
      keys_called = runs.called;
      divided = subst (λ held. DividesByKey g.K.PartialEq.eq runs.drawn (and_held v held)) end.1
          runs.divided;
    }) (c.results_are_read_whole.ensures c.group_by.result c.in_ok-collect.field-0
    c.in_ok-collect.ensures.gives)

-- The chain ends: the mapped items do, and the key can be computed for each of them.
pub collect-requires : goal.collect-requires
collect-requires g c =
    c.group_by.ensures.ends (search rules)
    (λ it made. c.always_callable_is_callable_on_all_items.ensures it _ c.requires.key_callable)
