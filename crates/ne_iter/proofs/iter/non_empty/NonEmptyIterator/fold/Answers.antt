use Rattle.ne_iter.proofs.iter.non_empty.NonEmptyIterator.fold.Goals as goal
use Rattle.std.proofs.Common.{sym, ◌∙◌}
use Rattle.std.proofs.iter.runs.Made.{to_end}
use Rattle.std.proofs.lemmas.List.Folds.{fold-map}
use Rattle.std.specs.Prelude.{◌≡◌}
use Rattle.std.specs.List.{fold}
use Rattle.std.specs.Iterator.{ActsAsOnTwo}
use Rattle.ne_iter.proofs.FunctionCalls.{folded_value}
use Rattle.ne_iter.proofs.SourceLists.{read_through, each_view}

pub returns-clause-lists : goal.returns-clause-lists
returns-clause-lists g c =
    let ran = c.fold.ensures.ran in
    let init = c.args.init in
    each_view (λ view xs. (h : _ → view.Target → _)
    → ActsAsOnTwo g.F.FnMut c.args.f (λ total x. h total (view.of x))
    → c.fold.result ≡ fold h init xs)
    g.Self.NonEmptyIterator.item_view (λ view xs known h acts.
    let value = folded_value g.F.FnMut c.args.f (λ total x. h total (view.of x)) init
    c.fold.result ran.0 ran.1 acts ran.3 in
    read_through _ g.Self.IntoIter.Iterator.next_gives c.args.self view.of xs known
    (λ l. c.fold.result ≡ fold h init l) ran.0 (record {
      it = c.into_iter.result;
      made = c.into_iter.ensures.into_iter_gives;
      given = to_end g.Self.IntoIter.Iterator.next_gives c.into_iter.result ran.0 ran.2;
    })
    (value.0 ∙ sym (fold-map h view.of init ran.0)))
