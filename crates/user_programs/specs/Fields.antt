-- What the lines of a form say, and what is wrong with them.
use Rattle.std.specs.Prelude.{ℕ, ◌^◌, nat_lt, ◌==◌, ◌&&◌, if◌then◌else◌, List, length, map, Option}
use Rattle.std.specs.Prelude.{Some, None, Result, Err, filter_map, option_map, codes, decimal, min}
use Rattle.std.specs.Prelude.{◌+◌, ◌-◌, ◌++◌, string_bytes}
use Rattle.std.specs.declared.string.String.{String}
use Rattle.std.specs.Global.{Global}
use Rattle.std.specs.List.{enumerate_from, before_first, after_first}
use Rattle.std.specs.Option.{ok_or}
use Rattle.std.specs.Result.{result_err}
use Rattle.std.specs.Str.{all_ascii_digits}
use Rattle.std.specs.Str.Parse.{digits_value, without_leading_plus}
use Rattle.user_programs.specs.declared.validation.Fault.{Fault}
use Rattle.user_programs.specs.declared.validation.Fault.TheVariants.{NoName, NoNumber}
use Rattle.user_programs.specs.declared.validation.Field.{Field}

-- The number that a text writes in decimal, if it fits in 32 bits.
abbrev pub number_of : List ℕ → Option ℕ
number_of text =
    let digits = without_leading_plus text in
    let value = digits_value 10 digits in
    if nat_lt 0 (length digits) && all_ascii_digits digits && nat_lt value (2 ^ 32)
    then Some value else None

-- What stands before the first `=` of a line, or the line if there is none.
abbrev pub name_text : List ℕ → List ℕ
name_text line = before_first (λ b. b == 61) line

-- What stands after the first `=` of a line, or nothing if there is none.
abbrev pub number_text : List ℕ → List ℕ
number_text line = after_first (λ b. b == 61) line

-- The reading of the line at a place: its field, or what is wrong with it.
abbrev pub reading : ℕ → List ℕ → Result Field Fault
reading place line =
    let name = name_text line in
    let number = number_of (number_text line) in
    let field = option_map (λ n. record { name = name; number = n }) number in
    if nat_lt 0 (length name) then ok_or field (NoNumber place) else Err (NoName place)

-- The readings of all lines, in order. Places count from 0.
abbrev pub readings : List (String Global) → List (Result Field Fault)
readings lines = map (λ l. reading l.0 (string_bytes l.1)) (enumerate_from 0 lines)

-- The faults of all lines, in order.
abbrev pub faults_of : List (String Global) → List Fault
faults_of lines = filter_map result_err (readings lines)

-- The text of a fault, in which places count from 1.
abbrev pub fault_text : Fault → List ℕ
fault_text (NoName place) =
    codes "field " ++ decimal (min (place + 1) (2 ^ 64 - 1)) ++ codes " has no name"
fault_text (NoNumber place) =
    codes "field " ++ decimal (min (place + 1) (2 ^ 64 - 1)) ++ codes " has no number below 2^32"
