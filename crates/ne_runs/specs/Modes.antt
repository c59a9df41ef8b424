-- The modes: the word that names each mode, and what it writes for a list of numbers. A space is
-- the byte 32.
use Rattle.std.specs.Prelude.{◌≡◌, ◌==◌, ℕ, ◌≤◌, ◌-◌, ◌%◌, Bool, nat_eq, nat_le, List, [], ◌∷◌}
use Rattle.std.specs.Prelude.{◌++◌, if◌then◌else◌, length, map, slice_index, codes, All, Contains}
use Rattle.std.specs.Prelude.{sum, Option, None, Some}
use Rattle.std.specs.Bool.{beq}
use Rattle.std.specs.List.{flat_map, join_with_byte}
use Rattle.std.specs.Fmt.{decimal}
use Rattle.std.specs.Int.{abs_diff}
use Rattle.std.specs.Str.{bytes_eq}
use Rattle.nonempty_collections.specs.Divisions.{IsDivision, by_first, by_previous}
use Rattle.nonempty_collections.specs.KeyList.{key_list}
use Rattle.ne_runs.specs.declared.mode.Mode.{Mode}
use Rattle.ne_runs.specs.declared.mode.Mode.TheVariants.{Ends, Stats, Equal, Parity, Distinct, Near}
use Rattle.ne_runs.specs.declared.mode.Mode.TheVariants.{Chain}

-- The word that names a mode.
abbrev pub word_of : Mode → List ℕ
word_of Ends = codes "ends"
word_of Stats = codes "stats"
word_of Equal = codes "equal"
word_of Parity = codes "parity"
word_of Distinct = codes "distinct"
word_of Near = codes "near"
word_of Chain = codes "chain"

-- The mode that a word names.
abbrev pub mode_of : List ℕ → Option Mode
mode_of word =
    if bytes_eq word (word_of Ends) then Some Ends
    else if bytes_eq word (word_of Stats) then Some Stats
    else if bytes_eq word (word_of Equal) then Some Equal
    else if bytes_eq word (word_of Parity) then Some Parity
    else if bytes_eq word (word_of Distinct) then Some Distinct
    else if bytes_eq word (word_of Near) then Some Near
    else if bytes_eq word (word_of Chain) then Some Chain
    else None

-- How many numbers there are, the first number and the last.
abbrev pub ends_of : List ℕ → List ℕ
ends_of numbers = length numbers ∷ slice_index numbers 0 ∷ slice_index numbers (length numbers - 1)
    ∷ []

-- `least` is one of the numbers, and at most each of them.
abbrev pub IsLeast : List ℕ → ℕ → Type 0
IsLeast numbers least = Contains numbers least × All (λ n. least ≤ n) numbers

-- `greatest` is one of the numbers, and at least each of them.
abbrev pub IsGreatest : List ℕ → ℕ → Type 0
IsGreatest numbers greatest = Contains numbers greatest × All (λ n. n ≤ greatest) numbers

-- Whether a number is even.
abbrev pub is_even : ℕ → Bool
is_even n = n % 2 == 0

-- Whether two numbers differ by at most 1.
abbrev pub is_near : ℕ → ℕ → Bool
is_near m n = nat_le (abs_diff m n) 1

-- The rows that a mode makes of numbers, if there is at least one number.
abbrev pub AreRows : Mode → List ℕ → List (List ℕ) → Type 0
AreRows Ends numbers rows = rows ≡ ends_of numbers ∷ []
AreRows Stats numbers rows =
    (least : ℕ) × (greatest : ℕ) × IsLeast numbers least × IsGreatest numbers greatest
    × (rows ≡ (least ∷ greatest ∷ sum numbers ∷ []) ∷ [])
AreRows Equal numbers rows = IsDivision (by_first nat_eq) numbers rows
AreRows Parity numbers rows = IsDivision (by_first (λ m n. beq (is_even m) (is_even n))) numbers
    rows
AreRows Distinct numbers rows = rows ≡ key_list nat_eq numbers ∷ []
AreRows Near numbers rows = IsDivision (by_first is_near) numbers rows
AreRows Chain numbers rows = IsDivision (by_previous is_near) numbers rows

-- A row as a line of text: its numbers in decimal, with one space between them.
abbrev pub row_text : List ℕ → List ℕ
row_text row = join_with_byte 32 (map decimal row) ++ 10 ∷ []

-- The text is rows for which `are_rows` holds, one line each.
pub record IsText (are_rows : List (List ℕ) → Type 0) (text : List ℕ) : Type 0 where
  pub rows : List (List ℕ)
  pub holds : are_rows rows
  pub written : text ≡ flat_map row_text rows
