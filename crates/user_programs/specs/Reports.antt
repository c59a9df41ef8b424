-- What a report says about rows.
use Rattle.std.specs.Prelude.{◌≡◌, ℕ, ◌≤◌, List, [], ◌∷◌, length, map, filter, sum, Contains, All}
use Rattle.std.specs.Prelude.{Option, Some, None, slice_get, nat_eq, codes, decimal, ltb, ◌+◌, ◌^◌}
use Rattle.std.specs.Prelude.{if◌then◌else◌}
use Rattle.std.specs.List.{join_by}
use Rattle.std.specs.List.Sorted.{IsStrictlyIncreasing}
use Rattle.std.specs.Option.{option_map}
use Rattle.user_programs.specs.declared.report.Row.{Row}
use Rattle.user_programs.specs.declared.report.Summary.{Summary}

-- The values of rows, in order.
abbrev pub values : List Row → List ℕ
values rows = map (λ r. r.value) rows

-- The rows with the key k, in order.
abbrev pub rows_of : ℕ → List Row → List Row
rows_of k rows = filter (λ r. nat_eq r.key k) rows

-- A total plus the number n, if there is a total and the sum fits in 64 bits.
abbrev pub plus : Option ℕ → ℕ → Option ℕ
plus None n = None
plus (Some total) n = if ltb (total + n) (2 ^ 64) then Some (total + n) else None

-- n is one of the numbers, and at most each of them.
abbrev pub IsLeast : List ℕ → ℕ → Type 0
IsLeast ns n = Contains ns n × All (λ m. n ≤ m) ns

-- n is one of the numbers, and at least each of them.
abbrev pub IsGreatest : List ℕ → ℕ → Type 0
IsGreatest ns n = Contains ns n × All (λ m. m ≤ n) ns

-- What the summary says about the rows; its key is the key of the first row.
pub record IsSummary (rows : List Row) (s : Summary) : Type 0 where
  pub key : option_map (λ r. r.key) (slice_get rows 0) ≡ Some s.key
  pub count : s.count ≡ length rows
  pub least : IsLeast (values rows) s.least
  pub greatest : IsGreatest (values rows) s.greatest
  pub total : s.total ≡ sum (values rows)

-- There is a summary for each group, at the same place.
pub record AreSummaries (groups : List (List Row)) (lines : List Summary) : Type 0 where
  pub count : length lines ≡ length groups
  pub each : (k : ℕ) (group : List Row) (line : Summary)
      → slice_get groups k ≡ Some group → slice_get lines k ≡ Some line → IsSummary group line

-- Each line is the summary of the rows with its key.
-- There is one line for each key of the rows, in ascending order of the keys.
pub record IsReport (rows : List Row) (lines : List Summary) : Type 0 where
  pub rising : IsStrictlyIncreasing (map (λ s. s.key) lines)
  pub all_keys : All (λ r. Contains (map (λ s. s.key) lines) r.key) rows
  pub each : All (λ s. IsSummary (rows_of s.key rows) s) lines

-- The text of a line: its numbers in decimal, with a space between each two.
abbrev pub line_text : Summary → List ℕ
line_text s = join_by decimal (codes " ") (s.key ∷ s.count ∷ s.least ∷ s.greatest ∷ s.total ∷ [])
