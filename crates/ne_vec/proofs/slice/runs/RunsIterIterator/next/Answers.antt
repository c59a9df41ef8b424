use Rattle.ne_vec.proofs.slice.runs.RunsIterIterator.next.Goals as goal
use Rattle.std.proofs.Common.{rules, refl, subst, sym}
use Rattle.std.proofs.lemmas.List.{take-append-drop}
use Rattle.ne_vec.specs.SliceRuns.{CallableAtPairs}
use Rattle.ne_vec.proofs.FirstRuns.{callable_later, front_is_some}

pub returns-clause-steps : goal.returns-clause-steps
returns-clause-steps g c =
    let cut = c.first_run.ensures in
    let items = c.self.inside.items.now in
    rw (← c.self.view_is, c.split_at.ensures.front, c.split_at.ensures.back) (
      refl {a = c.self.inside.same},
      (
        sym (take-append-drop c.first_run.result items),
        front_is_some items c.first_run.result cut.some cut.within,
        cut.run,
      ),
    )

pub returns-clause-goes : goal.returns-clause-goes
returns-clause-goes g c =
    let same = c.self.inside.same in
    let items = c.self.inside.items.now in
    let callable : CallableAtPairs g.F.Fn same items =
    subst (λ s. CallableAtPairs g.F.Fn s.closure s.left) (sym c.self.view_is) c.requires in
    let later : CallableAtPairs g.F.Fn same c.split_at.result.1.now =
    subst (CallableAtPairs g.F.Fn same) (sym c.split_at.ensures.back)
    (callable_later g.F.Fn same items c.first_run.result callable) in
    search rules
