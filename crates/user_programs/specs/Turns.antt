-- The job that has the next turn, and the schedule after that turn. A schedule is the list of its
-- jobs with their names, in the order in which they were added.
use Rattle.std.specs.Prelude.{ℕ, ◌+◌, ltb, List, nat_eq, if◌then◌else◌}
use Rattle.std.specs.Map.{remove_entry, set_value}
use Rattle.nonempty_collections.specs.Consumers.{IsFirstLeast}
use Rattle.user_programs.specs.declared.schedule.Job.{Job}

-- No job is due earlier than `next`, and each job before `next` in the list is due later.
-- The job `next`, with its name, has the next turn.
abbrev pub ComesNext : List (ℕ × Job) → ℕ × Job → Type 0
ComesNext jobs next = IsFirstLeast (λ p q. ltb p.1.due q.1.due) jobs next

-- Of two, the one that is due earlier, and the first if both are due at once.
abbrev pub earlier : ℕ × Job → ℕ × Job → ℕ × Job
earlier p q = if ltb q.1.due p.1.due then q else p

-- The time at which a job is due again after its turn.
abbrev pub due_again : Job → ℕ
due_again job = job.due + job.period

-- `after_turn` makes that job due a period later, and changes no other job, name or order.
-- The jobs after a turn of the job `next`.
abbrev pub after_turn : List (ℕ × Job) → ℕ × Job → List (ℕ × Job)
after_turn jobs next = set_value (nat_eq next.0) jobs
    (record { period = next.1.period; due = due_again next.1 })

-- The jobs without the one of this name, in the same order.
abbrev pub without : ℕ → List (ℕ × Job) → List (ℕ × Job)
without name jobs = remove_entry (nat_eq name) jobs
