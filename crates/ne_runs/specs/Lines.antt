-- The lines of an input, and the numbers that they write. A line feed is the byte 10, and the digit
-- 0 is the byte 48.
use Rattle.std.specs.Prelude.{◌≡◌, ◌≢◌, ℕ, ◌+◌, ◌-◌, ◌*◌, ◌^◌, Bool, not, ◌&&◌, ◌⊎◌, List, [], ◌∷◌}
use Rattle.std.specs.Prelude.{◌++◌, if◌then◌else◌, ◌==◌, nat_le, length, map}
use Rattle.std.specs.List.{flat_map, onto_first, AllByRecursion}
use Rattle.std.specs.Str.{all_ascii_digits}
use Rattle.std.specs.Str.Parse.{digits_value}

-- A line, and the line feed that ends it.
abbrev pub ended : List ℕ → List ℕ
ended line = line ++ 10 ∷ []

-- The text consists of these lines. Each line but the last is ended, and the last is not empty.
pub record EndsOpen (text : List ℕ) (lines : List (List ℕ)) : Type 0 where
  pub prefix : List (List ℕ)
  pub last : List ℕ
  pub parts : lines ≡ prefix ++ last ∷ []
  pub not_empty : last ≢ []
  pub joined : text ≡ flat_map ended prefix ++ last

-- The text consists of these lines, each ended, except perhaps a last one that is not empty.
pub record AreLines (text : List ℕ) (lines : List (List ℕ)) : Type 0 where
  pub no_feed : AllByRecursion (AllByRecursion (λ byte. byte ≢ 10)) lines
  pub joined : (text ≡ flat_map ended lines) ⊎ EndsOpen text lines

-- The lines of a text.
abbrev pub lines_of : List ℕ → List (List ℕ)
lines_of [] = []
lines_of (byte ∷ text) = if byte == 10 then [] ∷ lines_of text else onto_first byte (lines_of text)

-- One to nine decimal digits: a good line.
abbrev pub is_number : List ℕ → Bool
is_number line = nat_le 1 (length line) && nat_le (length line) 9 && all_ascii_digits line

-- Any line that is not good: a bad line.
abbrev pub is_bad : List ℕ → Bool
is_bad line = not (is_number line)

-- The number that a good line writes.
abbrev pub number_of : List ℕ → ℕ
number_of line = digits_value 10 line

-- The sum of the digits, each times ten to the power of the number of digits after it.
abbrev pub place_value : List ℕ → ℕ
place_value [] = 0
place_value (digit ∷ line) = (digit - 48) * 10 ^ length line + place_value line

-- The numbers that the lines of a text write.
abbrev pub numbers_of : List ℕ → List ℕ
numbers_of text = map number_of (lines_of text)
