-- Sums that fit in 64 bits.
use Rattle.std.specs.Prelude.{◌+◌, ◌^◌, ℕ, if◌then◌else◌, ltb, Option, None, Some}

-- A total plus n, if there is a total and the sum fits.
abbrev pub plus : Option ℕ → ℕ → Option ℕ
plus None n = None
plus (Some total) n = if ltb (total + n) (2 ^ 64) then Some (total + n) else None
