-- Whose turn it is: in a queue whose first job has the turn, and among jobs that are due.
use Rattle.std.specs.Prelude.{◌≡◌, ◌==◌, ◌&&◌, ◌||◌, ◌+◌, ltb, Bool, false, List, [], ◌∷◌, ◌++◌}
use Rattle.std.specs.Prelude.{map, All, Contains}
use Rattle.std.specs.declared.cmp.Reverse.{Reverse}
use Rattle.user_programs.specs.declared.queue.Due.{Due}
use Rattle.user_programs.specs.declared.queue.Job.{Job}

-- `job` has had its turn: it was the first, and is now the last.
abbrev pub TakesTurn : {A : Type 0} → List A → A → List A → Type 0
TakesTurn {A} old job new = (rest : List A) × (old ≡ job ∷ rest) × (new ≡ rest ++ job ∷ [])

-- The first of two jobs is the more urgent: its priority is the lesser number, or the priorities
-- are equal and it stands first in the configuration.
abbrev pub is_more_urgent : Job → Job → Bool
is_more_urgent a b =
    ltb a.priority b.priority || (a.priority == b.priority && ltb a.place b.place)

-- The first of two comes first: it is due earlier, or both are due at once and it is more urgent.
abbrev pub precedes : Due → Due → Bool
precedes a b = ltb a.time b.time || (a.time == b.time && is_more_urgent a.job b.job)

-- `next` is one of the jobs, and none precedes it.
abbrev pub IsDueFirst : List (Reverse Due) → Due → Type 0
IsDueFirst jobs next = Contains (map (λ job. job.0) jobs) next
    × All (λ job. precedes job.0 next ≡ false) jobs

-- A job as a queue holds it.
abbrev pub reversed : Due → Reverse Due
reversed due = record { 0 = due }

-- A job when it is due for the first time, which is after its period.
abbrev pub first_due : Job → Due
first_due job = record { time = job.period; job = job }

-- A job when it is due again, which is a period later.
abbrev pub due_again : Due → Due
due_again due = record { time = due.time + due.job.period; job = due.job }
