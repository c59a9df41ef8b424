use Rattle.ne_iter.proofs.iter.best.best.Goals as goal
use Rattle.std.proofs.Common.{refl, true, false, [], ◌∷◌, ◌++◌}
use Rattle.std.proofs.lemmas.Fn.{says_at_two, FoldsTo-push}
use Rattle.std.proofs.lemmas.List.Elements.{Contains-append_left, Contains-push}
use Rattle.ne_iter.specs.Consumers.{KeepsBetter}
use Rattle.ne_iter.proofs.Best.{Contains-kept}
use Rattle.ne_iter.specs.LoopLaws.{Reads-loop, Yields-first}
use Rattle.ne_iter.specs.LoopLaws.{Yields-append}

pub better-requires : goal.better-requires
better-requires g c =
    let steps = g.S.IntoIter.Iterator.next_gives in
    let from = c.next-first.ensures.first in
    let begun = c.into_iter-x-iterator.ensures.into_iter_gives in
    let so_far = c.next-first.result.0 ∷ c.loop-x.yielded in
    let x = c.in-Some.x in
    let last = c.next.new.self in
    let yielded = Yields-append steps so_far (x ∷ []) from.0 c.loop-x.x-iterator last
    (Yields-first steps from.0 c.next-first.result.0 c.loop-x.yielded c.loop-x.x-iterator
    from.2 begun c.loop-x.yielded_by) (last, c.in-Some.ensures.steps, refl) in
    let kept = Contains-kept (λ y. y) g.F.Fn c.args.better c.next-first.result.0 c.loop-x.yielded
    c.loop-x.best c.loop-x.invariant in
    c.requires.callable from.0 from.1 (so_far ++ x ∷ []) last _ _ yielded
    (Contains-append_left so_far (x ∷ []) c.loop-x.best kept) (Contains-push so_far x)

pub loop-x-preserved-then-better : goal.loop-x-preserved-then-better
loop-x-preserved-then-better g c =
    FoldsTo-push (KeepsBetter (λ y. y) g.F.Fn c.args.better) _ c.loop-x.yielded c.loop-x.best
    c.in-Some.x _ c.loop-x.invariant
    (true, says_at_two g.F.Fn c.better.ensures c.if-better.true, refl)

pub loop-x-preserved : goal.loop-x-preserved
loop-x-preserved g c =
    FoldsTo-push (KeepsBetter (λ y. y) g.F.Fn c.args.better) _ c.loop-x.yielded c.loop-x.best
    c.in-Some.x _ c.loop-x.invariant
    (false, says_at_two g.F.Fn c.better.ensures c.if-better.false, refl)

pub returns : goal.returns
returns g c =
    let from = c.next-first.ensures.first in
    let begun = c.into_iter-x-iterator.ensures.into_iter_gives in (
      c.next-first.result.0,
      c.loop-x.yielded,
      Reads-loop from.0 c.loop-x.x-iterator c.next.new.self from.1 from.2 begun
          c.loop-x.yielded_by c.in-None.ensures.steps,
      c.loop-x.invariant,
    )
