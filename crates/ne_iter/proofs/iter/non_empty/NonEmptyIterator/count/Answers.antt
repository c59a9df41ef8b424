use Rattle.ne_iter.proofs.iter.non_empty.NonEmptyIterator.count.Goals as goal
use Rattle.std.proofs.Common.{rules, sym, ◌∙◌}
use Rattle.std.proofs.iter.runs.Made.{to_end}
use Rattle.std.proofs.lemmas.List.{length-map}
use Rattle.std.specs.Prelude.{◌≡◌, length}
use Rattle.std.specs.Int.NonZero.{non_zero_usize_get}
use Rattle.ne_iter.proofs.SourceLists.{read_through, each_view}

pub returns-clause-lists : goal.returns-clause-lists
returns-clause-lists g c =
    let counted : non_zero_usize_get c.unwrap.result ≡ c.count.result = search rules in
    let ran = c.count.ensures.ran in
    let steps = g.Self.IntoIter.Iterator.next_gives in
    each_view (λ view xs. non_zero_usize_get c.unwrap.result ≡ length xs)
    g.Self.NonEmptyIterator.item_view (λ view xs known.
    read_through _ steps c.args.self view.of xs known
    (λ l. non_zero_usize_get c.unwrap.result ≡ length l) ran.0
    (record {
      it = c.into_iter.result;
      made = c.into_iter.ensures.into_iter_gives;
      given = to_end steps c.into_iter.result ran.0 ran.1;
    })
    (counted ∙ ran.2 ∙ sym (length-map ran.0 view.of)))

pub returns-clause-runs : goal.returns-clause-runs
returns-clause-runs g c =
    let counted : non_zero_usize_get c.unwrap.result ≡ c.count.result = search rules in
    let r = c.count.ensures.runs in (
      c.into_iter.result,
      c.into_iter.ensures.into_iter_gives,
      (r.0, r.1, r.2, counted ∙ r.3),
    )
