use Rattle.ne_iter.proofs.iter.non_empty.NonEmptyIterator.unzip.Goals as goal
use Rattle.std.proofs.Common.{subst, sym, map, [], ◌∷◌}
use Rattle.std.proofs.lemmas.List.{append-nil}
use Rattle.ne_vec.specs.ListLaws.{triggered}
use Rattle.ne_iter.specs.LoopLaws.{Reads-loop}
use Rattle.ne_iter.proofs.Traced.{whole_run_of, indexes}
use Rattle.ne_iter.proofs.Unzipped.{map-one_more}
use Rattle.ne_iter.proofs.SourceLists.{of_read}

pub loop-a-init : goal.loop-a-init
loop-a-init g c = (
  λ ps h. subst (λ l. g.FromA.Singleton.collected (map (λ p. p.0) l) c.in_ok-firsts.firsts)
      (sym (append-nil ps)) h,
  λ ps h. subst (λ l. g.FromB.Singleton.collected (map (λ p. p.1) l) c.in_ok-seconds.seconds)
      (sym (append-nil ps)) h,
)

pub loop-a-preserved : goal.loop-a-preserved
loop-a-preserved g c =
    let item : g.row.A.Denot × g.row.B.Denot = (c.in-Some.a, c.in-Some.b) in (
      λ ps h. subst (λ l. g.FromA.Singleton.collected l c.extend_one.new.self)
          (map-one_more (λ p. p.0) ps c.loop-a.yielded item)
          (c.in_ok-extend_one.ensures.added _ (c.loop-a.invariant.0 ps h)),
      λ ps h. subst (λ l. g.FromB.Singleton.collected l c.extend_one-in-loop-a.new.self)
          (map-one_more (λ p. p.1) ps c.loop-a.yielded item)
          (c.in_ok-extend_one-2.ensures.added _ (c.loop-a.invariant.1 ps h)),
    )

pub returns-clause-gives : goal.returns-clause-gives
returns-clause-gives g c =
    let from = c.next-a.ensures.first in
    let first = c.next-a.result.0 in (
      first ∷ c.loop-a.yielded,
      Reads-loop from.0 c.loop-a.a-iterator c.next.new.self from.1 from.2
          c.into_iter-a-iterator.ensures.into_iter_gives c.loop-a.yielded_by
          c.in-None.ensures.steps,
      c.loop-a.invariant.0 (first ∷ []) c.in_ok-firsts.ensures,
      c.loop-a.invariant.1 (first ∷ []) c.in_ok-seconds.ensures,
    )

pub returns-clause-lists : goal.returns-clause-lists
returns-clause-lists g c ps lists =
    let r = returns-clause-gives g c in (
      triggered _ ps,
      of_read _ _ _ ps lists (λ l. g.FromA.Singleton.collected (map (λ p. p.0) l) c.loop-a.firsts
          × g.FromB.Singleton.collected (map (λ p. p.1) l) c.loop-a.seconds) r.0 r.1 (r.2, r.3),
    )

pub returns-clause-runs : goal.returns-clause-runs
returns-clause-runs g c =
    let r = returns-clause-gives g c in
    whole_run_of r.1 _ (r.2, r.3, indexes r.0 (λ x. x.0), indexes r.0 (λ x. x.1))
