-- The faults: the text and the exit status of each, and the fault of an input.
use Rattle.std.specs.Prelude.{ℕ, ◌+◌, List, [], ◌∷◌, ◌++◌, if◌then◌else◌, nat_lt, length, codes}
use Rattle.std.specs.Prelude.{position, Option, Some}
use Rattle.std.specs.Option.{option_map}
use Rattle.std.specs.Fmt.{decimal}
use Rattle.ne_runs.specs.Lines.{lines_of, is_bad}
use Rattle.ne_runs.specs.declared.fault.Fault.{Fault}
use Rattle.ne_runs.specs.declared.fault.Fault.TheVariants.{Empty, BadLine, TooLong, Usage, Read}
use Rattle.ne_runs.specs.declared.fault.Fault.TheVariants.{Write, Memory}
use Rattle.ne_runs.specs.declared.whole_run.TheConstants.{LIMIT}

-- The text that a fault prints.
abbrev pub fault_text : Fault → List ℕ
fault_text Empty = codes "Given collection was empty"
fault_text (BadLine place) = codes "bad line " ++ decimal place
fault_text TooLong = codes "input too long"
fault_text Usage = codes "usage: ne_runs MODE"
fault_text Read = codes "read failed"
fault_text Write = codes "write failed"
fault_text Memory = codes "out of memory"

-- The exit status that reports a fault.
abbrev pub fault_status : Fault → ℕ
fault_status Empty = 1
fault_status (BadLine place) = 2
fault_status TooLong = 2
fault_status Usage = 2
fault_status Read = 3
fault_status Write = 3
fault_status Memory = 4

-- The fault of the first bad line, if there is one. Lines count from 1.
abbrev pub bad_line : List (List ℕ) → Option Fault
bad_line lines = option_map (λ place. BadLine (place + 1)) (position is_bad lines)

-- The fault of lines, if there are none or one is bad.
abbrev pub fault_of_lines : List (List ℕ) → Option Fault
fault_of_lines [] = Some Empty
fault_of_lines (line ∷ lines) = bad_line (line ∷ lines)

-- The fault of an input: `TooLong` if it is too long, and otherwise the fault of its lines.
abbrev pub fault_of : List ℕ → Option Fault
fault_of input = if nat_lt LIMIT (length input) then Some TooLong else fault_of_lines
    (lines_of input)
