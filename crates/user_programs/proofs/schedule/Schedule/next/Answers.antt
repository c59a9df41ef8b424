use Rattle.user_programs.proofs.schedule.Schedule.next.Goals as goal
use Rattle.std.proofs.Common.{◌≡◌, ℕ, List, [], ◌∷◌, ltb, ap, sym, ◌∙◌}
use Rattle.std.proofs.lemmas.List.MinMax.{IsFirstBest-from_best_of, IsStrictWeakOrder-by_number}
use Rattle.std.proofs.lemmas.Option.{slice_get-get_or}
use Rattle.std.specs.Prelude.{Some}
use Rattle.std.specs.List.{reduce}
use Rattle.user_programs.specs.Turns.{ComesNext, earlier}
use Rattle.user_programs.specs.declared.schedule.Job.{Job}

comes_next : (jobs : List (ℕ × Job)) (next : ℕ × Job)
    → Some next ≡ reduce (λ p q. earlier p q) jobs → ComesNext jobs next
comes_next [] next is = absurd (cc)
comes_next (job ∷ jobs) next is =
    let best = IsFirstBest-from_best_of {beats = λ p q. ltb p.1.due q.1.due}
    (IsStrictWeakOrder-by_number (λ p. p.1.due)) job jobs in (
      best.0,
      best.1,
      slice_get-get_or (job ∷ jobs) best.0 job best.1.0 ∙ ap Some best.2 ∙ sym is,
    )

pub returns : goal.returns
returns c = comes_next c.args.self.now c.earliest.result c.earliest.ensures
