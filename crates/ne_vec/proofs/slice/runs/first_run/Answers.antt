use Rattle.ne_vec.proofs.slice.runs.first_run.Goals as goal
use Rattle.std.proofs.Common.{arith, refl, sym, ◌∙◌}
use Rattle.std.proofs.lemmas.Fn.{says_at_two}
use Rattle.std.proofs.lemmas.List.{length-take-le}
use Rattle.std.proofs.lemmas.Option.{slice_get_read}
use Rattle.ne_vec.proofs.FirstRuns.{run_of_one, longer_run, run_breaks, run_is_all, prefix_read}

pub loop-end-init : goal.loop-end-init
loop-end-init g c = (
  omega arith,
  omega (arith, c.requires.not_empty),
  λ test acts. run_of_one (g.C.Comparison.place test) c.args.items.now c.requires.not_empty,
)

-- An item does not continue the run.
pub returns-then-not-same-clause-run : goal.returns-then-not-same-clause-run
returns-then-not-same-clause-run g c test acts =
    let i = c.loop-end.invariant in
    let items = c.args.items.now in
    let n = c.loop-end.end in
    let here = slice_get_read items _ n _ refl c.loop-end-test.true c.index-items-end.is in
    let before = prefix_read items n _ _ i.1 c.index.ensures.within c.index-items-index.is in
    let said = sym (acts _ _ _ (says_at_two g.F.Fn c.same.ensures refl)) in
    run_breaks (g.C.Comparison.place test) items n _ here (i.2 test acts)
    (c.index.ensures.compares test _ _ _ (length-take-le n items i.1) before ∙ said
    ∙ c.if-not-same.true)

pub loop-end-preserved : goal.loop-end-preserved
loop-end-preserved g c = (
  omega arith,
  omega (arith, c.loop-end-test.true),
  λ test acts.
      let i = c.loop-end.invariant in
      let items = c.args.items.now in
      let n = c.loop-end.end in
      let here = slice_get_read items _ n _ refl c.loop-end-test.true c.index-items-end.is in
      let before = prefix_read items n _ _ i.1 c.index.ensures.within c.index-items-index.is in
      let said = sym (acts _ _ _ (says_at_two g.F.Fn c.same.ensures refl)) in
      longer_run (g.C.Comparison.place test) items n _ here (i.2 test acts)
      (c.index.ensures.compares test _ _ _ (length-take-le n items i.1) before ∙ said
      ∙ c.if-not-same.false),
)

-- No item is left.
pub returns-clause-run : goal.returns-clause-run
returns-clause-run g c test acts =
    run_is_all (g.C.Comparison.place test) c.args.items.now c.loop-end.end
    (omega (arith, c.loop-end-test.false)) (c.loop-end.invariant.2 test acts)
