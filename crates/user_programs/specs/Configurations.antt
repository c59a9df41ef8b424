-- The jobs that a configuration describes, and what is wrong with them.
use Rattle.std.specs.Prelude.{ℕ, ◌==◌, ◌||◌, ◌+◌, ◌-◌, ◌^◌, ◌++◌, ltb, if◌then◌else◌, Bool, true}
use Rattle.std.specs.Prelude.{false, List, map, Result, Ok, Err, codes, decimal, min}
use Rattle.std.specs.List.{enumerate_from}
use Rattle.user_programs.specs.declared.configuration.Entry.{Entry}
use Rattle.user_programs.specs.declared.configuration.Fault.{Fault}
use Rattle.user_programs.specs.declared.queue.Job.{Job}

-- The number is no priority: it is not from 1 to 9.
abbrev pub is_out_of_range : ℕ → Bool
is_out_of_range priority = priority == 0 || ltb 9 priority

-- The job that the entry at a place describes, or what is wrong with it.
abbrev pub job_of : ℕ → Entry → Result Job Fault
job_of place entry =
    if entry.period == 0 || is_out_of_range entry.priority
    then Err (record {
      place = place;
      no_period = entry.period == 0;
      bad_priority = is_out_of_range entry.priority;
    })
    else Ok (record { priority = entry.priority; place = place; period = entry.period })

-- The jobs of all entries, in order, each with what is wrong in its place. Places count from 0.
abbrev pub jobs_of : List Entry → List (Result Job Fault)
jobs_of entries = map (λ e. job_of e.0 e.1) (enumerate_from 0 entries)

-- The text of what is wrong.
abbrev pub wrong : Bool → Bool → List ℕ
wrong true true = codes "the period is 0, and the priority is not from 1 to 9"
wrong true false = codes "the period is 0"
wrong false _ = codes "the priority is not from 1 to 9"

-- The text of a fault, in which places count from 1.
abbrev pub fault_text : Fault → List ℕ
fault_text fault = codes "job " ++ decimal (min (fault.place + 1) (2 ^ 64 - 1)) ++ codes ": "
    ++ wrong fault.no_period fault.bad_priority
