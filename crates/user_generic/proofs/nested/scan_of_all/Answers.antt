use Rattle.user_generic.proofs.nested.scan_of_all.Goals as goal
use Rattle.std.proofs.Common.{subst}
use Rattle.std.proofs.lemmas.Result.{IfOk-weaker}
use Rattle.ne_iter.specs.Calls.{CallsWithState}

-- From what was collected back to the items of the inner sources.
pub returns : goal.returns
returns g c = IfOk-weaker c.collect.result _ _ (λ v h.
    let scanned = c.scan.ensures.gives _ h.0 h.1 in
    let flat = c.flatten.ensures.gives _ scanned.items scanned.read in
    let f = c.args.f in
    let init = c.args.init in record {
      sources = flat.sources;
      lists = flat.lists;
      results = h.0;
      f_then = scanned.f_then;
      state_then = scanned.state_then;
      read = flat.read;
      read_each = flat.read_each;
      called = subst (λ l. CallsWithState g.F.FnMut f init l h.0 scanned.f_then scanned.state_then)
          flat.is scanned.called;
      made = h.2;
    }) c.collect.ensures.gives
