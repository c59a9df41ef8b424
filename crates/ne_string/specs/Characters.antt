-- The characters or bytes that an iterator over a text has left, at least one, and the list that it
-- yields as a source. `chars bs` is std's list of the characters that the bytes bs spell.
use Rattle.std.specs.Global.{Global}
use Rattle.std.specs.Prelude.{◌≡◌, ◌<◌, ◌^◌, ◌↔◌, ℕ, List, [], Option, None, MatchOption}
use Rattle.std.specs.Prelude.{Bool, MatchBool, Result, Ok, Err, length, string_bytes}
use Rattle.std.specs.Str.{IsUtf8, chars}
use Rattle.std.specs.Str.Iter.{bytes_rest, bytes_steps, chars_rest, chars_steps}
use Rattle.std.specs.declared.str.Bytes.{Bytes}
use Rattle.std.specs.declared.str.Chars.{Chars}
use Rattle.std.specs.declared.string.String.{String}
use Rattle.ne_vec.specs.Lists.{Listed}

-- The iterator w over characters has a character left, and becomes itself.
abbrev pub IteratesChars : Chars → Chars → Type 0
IteratesChars w it = (0 < length (chars_rest w)) × (it ≡ w) × IsUtf8 (chars_rest w)

-- The iterator w is a source of the characters cs.
abbrev pub ListsChars : Chars → List ℕ → Type 0
ListsChars w cs = Listed IteratesChars chars_steps (λ c. c) w cs

-- The iterator w over bytes has a byte left, and becomes itself.
abbrev pub IteratesBytes : Bytes → Bytes → Type 0
IteratesBytes w it = (0 < length (bytes_rest w)) × (it ≡ w) × (length (bytes_rest w) < 2 ^ 64)

-- The iterator w is a source of the bytes bs.
abbrev pub ListsBytes : Bytes → List ℕ → Type 0
ListsBytes w bs = Listed IteratesBytes bytes_steps (λ b. b) w bs

-- The result is `None` if and only if the text old has one character; it is then unchanged.
-- Otherwise `taken` says which character is returned and what is left.
abbrev pub TakesUnlessLastChar : List ℕ → List ℕ → Option ℕ → (ℕ → Type 0) → Type 0
TakesUnlessLastChar old new result taken = ((result ≡ None) ↔ (length (chars old) ≡ 1))
    × MatchOption result (new ≡ old) taken

-- The text old becomes new, which is `made` if that is not empty, and else old itself.
abbrev pub ReplacesUnlessAll : List ℕ → List ℕ → Bool → List ℕ → Type 0
ReplacesUnlessAll old new replaced made =
    MatchBool replaced ((new ≡ made) × (0 < length made)) ((new ≡ old) × (made ≡ []))

-- The text that `retain` returns, which is empty in an error.
abbrev pub kept_text : Result (List ℕ) (String Global) → List ℕ
kept_text (Ok s) = s
kept_text (Err s) = string_bytes s
