use Rattle.ne_iter.proofs.iter.try_into.AnyIntoIteratorExt.try_into_nonempty_iter.Goals as goal
use Rattle.std.proofs.Common.{rules, refl, sym, subst, ◌∙◌}
use Rattle.std.specs.Iterator.Adapters.{peekable_source, peekable_can}
use Rattle.std.proofs.iter.runs.Made.{at-is, run, took}
use Rattle.std.specs.Iterator.{IsFinite}
use Rattle.std.specs.Prelude.{◌≡◌, ◌∷◌, [], true, false, None, Some}
use Rattle.ne_iter.specs.Peeked.{has_peeked}
use Rattle.ne_iter.proofs.TryInto.{looked, reads_peeked, found, peeks_lists}
use Rattle.ne_iter.proofs.Traced.{whole_run_of}
use Rattle.ne_iter.specs.TryInto.{PeeksWhole}

pub returns-then-is_some-clause-gives : goal.returns-then-is_some-clause-gives
unfolding PeeksWhole
returns-then-is_some-clause-gives g c =
    let steps = g.T.IntoIter.Iterator.next_gives in
    let v = c.peek.follows.lender-at-none in
    let full : has_peeked v ≡ true = found _ c.peek.result c.peek.follows.holds-at-none.2
    (sym c.is_some.ensures ∙ c.if-is_some.true) in
    let h = looked steps c.into_iter.result c.peekable-iter.result v c.peekable-iter.ensures.source
    c.peekable-iter.ensures.peeked c.peek.follows.holds-at-none.0 full in (
      (
        h.0,
        record {
          it = c.into_iter.result;
          made = c.into_iter.ensures.into_iter_gives;
          given = (
            peekable_source v,
            (peekable_source v, h.1, refl),
            λ w. let w = w in
                search rules,
          );
        },
      ),
      λ whole xs r. record {
        it = c.into_iter.result;
        made = c.into_iter.ensures.into_iter_gives;
        given = reads_peeked steps c.into_iter.result v r.it xs r.made.0 h full r.given;
      },
    )

pub returns-then-is_some-clause-lists : goal.returns-then-is_some-clause-lists
returns-then-is_some-clause-lists g c =
    peeks_lists _ _ _ _ _ (Some _) (returns-then-is_some-clause-gives g c)

pub returns-else-is_some-clause-gives : goal.returns-else-is_some-clause-gives
unfolding PeeksWhole
returns-else-is_some-clause-gives g c = search rules

pub returns-else-is_some-clause-lists : goal.returns-else-is_some-clause-lists
unfolding PeeksWhole
returns-else-is_some-clause-lists g c =
    peeks_lists {V = Unit {0}} {T = Unit {0}} _ _ (λ _ _. Unit {0}) (λ _ _ _. Unit {0}) _ None
    (returns-else-is_some-clause-gives g c)

-- The same for a run.
pub returns-then-is_some-clause-runs : goal.returns-then-is_some-clause-runs
unfolding PeeksWhole
returns-then-is_some-clause-runs g c =
    let steps = g.T.IntoIter.Iterator.next_gives in
    let it = c.into_iter.result in
    let v = c.peek.follows.lender-at-none in
    let peeked = c.peek.follows.holds-at-none in
    let full : has_peeked v ≡ true =
    found _ c.peek.result peeked.2 (sym c.is_some.ensures ∙ c.if-is_some.true) in
    let h = looked steps it c.peekable-iter.result v c.peekable-iter.ensures.source
    c.peekable-iter.ensures.peeked peeked.0 full in
    let one = (returns-then-is_some-clause-gives g c).0 in
    let first = one.1 in (
      (λ p seen from.
          let given = reads_peeked steps it v p.from p.items from h full (took p) in (
            it,
            c.into_iter.ensures.into_iter_gives,
            (
              run steps it p.items p.whole given,
              refl,
              ((sym p.long, refl, λ k. sym (at-is p k)), refl),
            ),
          )),
      (first.it, first.made, (run steps first.it (one.0 ∷ []) false first.given, refl, refl)),
    )

pub returns-else-is_some-clause-runs : goal.returns-else-is_some-clause-runs
unfolding PeeksWhole
returns-else-is_some-clause-runs g c =
    whole_run_of (returns-else-is_some-clause-gives g c) _ (refl, refl)

pub returns-then-is_some-clause-ends : goal.returns-then-is_some-clause-ends
returns-then-is_some-clause-ends g c finite it made =
    let steps = g.T.IntoIter.Iterator in
    let ends = (finite c.into_iter.result c.into_iter.ensures.into_iter_gives).1 in
    let peeked = c.peek.follows.holds-at-none.1 in
    let left = peeked.on (subst (λ q. IsFinite (steps.remaining q))
    (sym c.peekable-iter.ensures.source) ends) in
    subst (λ q. peekable_can steps.can_next q × IsFinite (steps.remaining (peekable_source q)))
    (sym made.0) (peeked.keeps, left.0)
