use Rattle.ne_products.proofs.products.NonEmptyItertools.join.Goals as goal
use Rattle.std.proofs.Common.{[], subst, ◌∙◌}
use Rattle.itertools.proofs.ConsumerLemmas.{some-of}
use Rattle.std.proofs.lemmas.Result.{IfOk-weaker}
use Rattle.std.specs.Prelude.{string_bytes}
use Rattle.ne_vec.specs.RunLaws.{run_drains}
use Rattle.ne_iter.specs.LoopLaws.{each_view_read}
use Rattle.ne_iter.specs.Sources.{Reads}
use Rattle.ne_products.specs.Joined.{IsJoined, text_of}
use Rattle.ne_products.proofs.Joined.{join_by-map, joined_by}

pub returns-clause-gives : goal.returns-clause-gives
returns-clause-gives g c =
    let steps = g.Self.IntoIter.Iterator.next_gives in
    let becomes = g.Self.IntoIterator.into_iter_gives in
    let it = c.into_iter.result in
    let separator = c.args.separator.now in
    IfOk-weaker c.join.result _ _ (λ text (p, from, whole, says). (
      p.items,
      subst (λ w. Reads becomes steps w c.args.self p.items) whole
          (record {
            it = it;
            made = c.into_iter.ensures.into_iter_gives;
            given = run_drains steps p it from;
          }),
      λ show shows. says show shows ∙ joined_by show separator p.items,
    )) c.join.ensures.text

pub returns-clause-lists : goal.returns-clause-lists
returns-clause-lists g c =
    let output = g.Self.Item.Display.output in
    let separator = c.args.separator.now in
    IfOk-weaker c.join.result _ _ (λ text (xs, read, says).
    each_view_read (λ view ys. IsJoined output view separator ys (string_bytes text))
    g.Self.NonEmptyIterator.item_view xs read (λ view show shows.
    says (λ x. show (view.of x)) shows ∙ join_by-map view.of show separator xs))
    (returns-clause-gives g c)

pub returns-clause-runs : goal.returns-clause-runs
returns-clause-runs g c =
    let output = g.Self.Item.Display.output in
    IfOk-weaker c.join.result _ _ (λ text (p, from, whole, says). (
      c.into_iter.result,
      c.into_iter.ensures.into_iter_gives,
      (
        p,
        from,
        whole,
        λ texts. says (text_of output) (λ x. some-of (output x) [] (texts x))
            ∙ joined_by (text_of output) c.args.separator.now p.items,
      ),
    )) c.join.ensures.text
