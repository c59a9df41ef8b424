use Rattle.user_generic.proofs.two_collections.parted.Goals as goal
use Rattle.std.proofs.Common.{subst, sym, ap, ◌∙◌, length, map, ◌<◌, ◌≤◌, true}
use Rattle.std.specs.Int.NonZero.{non_zero_usize_get}
use Rattle.std.proofs.lemmas.Result.{IfOk-weaker}
use Rattle.std.proofs.lemmas.Slice.Zip.{firsts-zip, seconds-zip}
use Rattle.std.proofs.lemmas.List.{length-map}
use Rattle.std.proofs.lemmas.Bool.{lt-ltb}

-- The two collections, back through the adapters to the two sources.
pub returns : goal.returns
returns g c = IfOk-weaker c.unzip.result _ _ (λ r h.
    let n = non_zero_usize_get c.args.n in
    let taken = c.take.ensures.gives true h.0 h.1 in
    let zipped = c.zip.ensures.gives _ h.0 taken.0 in
    let mapped = c.map.ensures.gives _ zipped.items zipped.read in
    let firsts = ap (λ l. map (λ p. p.0) l) zipped.is
    ∙ firsts-zip zipped.items zipped.other_items (sym zipped.as_many) in
    let seconds = ap (λ l. map (λ p. p.1) l) zipped.is
    ∙ seconds-zip zipped.items zipped.other_items (sym zipped.as_many) in
    let long = sym (length-map h.0 (λ p. p.1)) ∙ ap length seconds in record {
      items = mapped.items;
      results = zipped.items;
      other_items = zipped.other_items;
      f_then = mapped.f_then;
      ended = zipped.ended;
      other_ended = zipped.other_ended;
      read = mapped.read;
      called = mapped.called;
      read_other = zipped.read_other;
      as_many = zipped.as_many;
      at_most = subst (λ len. len ≤ n) long taken.1;
      fewer = λ less.
          zipped.one_ended (lt-ltb (length h.0) n (subst (λ len. len < n) (sym long) less));
      made = (
        subst (λ l. g.R.Singleton.collected l r.0) firsts h.2,
        subst (λ l. g.Q.Singleton.collected l r.1) seconds h.3,
      );
    }) c.unzip.ensures.gives
