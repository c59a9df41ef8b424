use Rattle.user_generic.proofs.inner_sources.spread_pairs.Goals as goal
use Rattle.std.proofs.Common.{subst}
use Rattle.std.proofs.lemmas.Result.{IfOk-weaker}
use Rattle.ne_iter.specs.Calls.{Calls}

-- The pairs are those of the two sources.
pub returns : goal.returns
returns g c = IfOk-weaker c.spread.result _ _ (λ v h.
    let zipped = c.zip.ensures.gives h.whole h.items h.read in
    let j = h.joins in record {
      items = zipped.items;
      other_items = zipped.other_items;
      ended = zipped.ended;
      other_ended = zipped.other_ended;
      whole = h.whole;
      read = zipped.read;
      read_other = zipped.read_other;
      as_many = zipped.as_many;
      one_ended = zipped.one_ended;
      joins = record {
        sources = j.sources;
        lists = j.lists;
        f_then = j.f_then;
        called = subst (λ ps. Calls g.F.FnMut c.args.f ps j.sources j.f_then) zipped.is j.called;
        read_each = j.read_each;
        is_whole = j.is_whole;
        at_most = j.at_most;
        made = j.made;
      };
    }) c.spread.ensures
