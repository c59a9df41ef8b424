use Rattle.user_generic.proofs.numbering.numbered.Goals as goal
use Rattle.std.proofs.Common.{subst, ap, ◌∙◌, length, ltb, ◌&&◌, ◌≤◌}
use Rattle.std.specs.Int.NonZero.{non_zero_usize_get}
use Rattle.std.specs.List.{enumerate_from}
use Rattle.std.proofs.lemmas.List.FromFn.{length-enumerate_from}
use Rattle.std.proofs.lemmas.Result.{IfOk-weaker}

-- What was collected, back through the adapters to the two sources.
pub returns : goal.returns
returns g c = IfOk-weaker c.collect.result _ _ (λ v h.
    let complete = g.B.FromNonEmptyIterator.is_complete v in
    let n = non_zero_usize_get c.args.n in
    let taken = c.take.ensures.gives complete h.0 h.1 in
    let counted = c.enumerate.ensures.gives _ h.0 taken.0 in
    let chained = c.chain.ensures.gives _ counted.0 counted.1 in
    let mapped = c.map.ensures.gives _ chained.items chained.read in
    let long = ap length counted.2 ∙ length-enumerate_from 0 counted.0 ∙ ap length chained.is in
    record {
      items = mapped.items;
      results = chained.items;
      other_items = chained.other_items;
      f_then = mapped.f_then;
      whole = _;
      read = mapped.read;
      called = mapped.called;
      read_other = chained.read_other;
      is_whole = ap (λ len. complete && ltb len n) long;
      at_most = subst (λ len. len ≤ n) long taken.1;
      made = subst (λ ws. g.B.FromNonEmptyIterator.collected ws v)
          (counted.2 ∙ ap (λ l. enumerate_from 0 l) chained.is) h.2;
    }) c.collect.ensures.gives
