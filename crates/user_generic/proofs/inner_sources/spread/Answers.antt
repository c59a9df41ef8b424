use Rattle.user_generic.proofs.inner_sources.spread.Goals as goal
use Rattle.std.proofs.Common.{subst, ap, ◌∙◌, length, ltb, ◌&&◌, ◌≤◌}
use Rattle.std.specs.Int.NonZero.{non_zero_usize_get}
use Rattle.std.specs.List.{enumerate_from}
use Rattle.std.proofs.lemmas.Result.{IfOk-weaker}
use Rattle.ne_iter.specs.Peekable.{peekable_first}

-- What was collected, back through the adapters to the source.
pub returns : goal.returns
returns g c = IfOk-weaker c.collect.result _ _ (λ v h.
    let complete = g.B.FromNonEmptyIterator.is_complete v in
    let n = non_zero_usize_get c.args.n in
    let counted = c.enumerate.ensures.gives complete h.0 h.1 in
    let taken = c.take.ensures.gives _ counted.0 counted.1 in
    let looked = c.peekable.ensures.gives (peekable_first c.peekable.result) _ counted.0 taken.0 in
    let spread = c.flat_map.ensures.gives _ _ looked.0 in
    let same = looked.1 ∙ spread.is in
    let long = ap length same in record {
      items = spread.items;
      whole = _;
      read = spread.read;
      joins = record {
        sources = spread.sources;
        lists = spread.lists;
        f_then = spread.f_then;
        called = spread.called;
        read_each = spread.read_each;
        is_whole = ap (λ len. complete && ltb len n) long;
        at_most = subst (λ len. len ≤ n) long taken.1;
        made = subst (λ ws. g.B.FromNonEmptyIterator.collected ws v)
            (counted.2 ∙ ap (λ l. enumerate_from 0 l) same) h.2;
      };
    }) c.collect.ensures.gives
