-- The first line of a text, and the lines of what follows it.
use Rattle.std.proofs.Common.{◌≡◌, ℕ, zero, suc, ◌<◌, Bool, true, false, List, [], ◌∷◌, length}
use Rattle.std.proofs.Common.{take, drop, get_or, arith, eqb, ltb, cond, position, None, Some}
use Rattle.std.specs.List.{position_or_len}
use Rattle.std.proofs.lemmas.List.Sums.{fails_before_first}
use Rattle.std.proofs.lemmas.Bool.Decides.{nat_tests}
use Rattle.ne_runs.specs.Lines.{lines_of}

-- The first line is the text before the first line feed.
pub lines_of-at_feed : (end : ℕ) (text : List ℕ) → end < length text
    → ((k : ℕ) → k < end → eqb (get_or text k 0) 10 ≡ false) → eqb (get_or text end 0) 10 ≡ true
    → lines_of text ≡ take end text ∷ lines_of (drop (suc end) text)
lines_of-at_feed end [] inside before here = absurd (omega arith)
lines_of-at_feed zero (byte ∷ text) inside before here = rw here
lines_of-at_feed (suc end) (byte ∷ text) inside before here =
    rw (
      before 0 (omega arith),
      lines_of-at_feed end text (omega arith)
          (λ k below. before (suc k) (omega arith)) here,
    )

-- A text without a line feed is one line.
pub lines_of-no_feed : (text : List ℕ) → 0 < length text
    → ((k : ℕ) → k < length text → eqb (get_or text k 0) 10 ≡ false) → lines_of text ≡ text ∷ []
lines_of-no_feed [] some none = absurd (omega arith)
lines_of-no_feed (byte ∷ []) some none = rw (none 0 (omega arith))
lines_of-no_feed (byte ∷ next ∷ text) some none =
    rw (
      none 0 (omega arith),
      lines_of-no_feed (next ∷ text) (omega arith)
          (λ k below. none (suc k) (omega arith)),
    )

none_before : (first len k : ℕ) → cond (ltb first len) (Some first) None ≡ None → k < len
    → k < first
none_before first len k none below = grind (arith, nat_tests)

-- If no line feed is found in a text, no byte of it is a line feed.
pub no_line_feed : (text : List ℕ) → position (λ byte. eqb byte 10) text ≡ None → (k : ℕ)
    → k < length text → eqb (get_or text k 0) 10 ≡ false
no_line_feed text none k below =
    let is_feed : ℕ → Bool = λ byte. eqb byte 10 in
    fails_before_first is_feed text k 0 (none_before (position_or_len is_feed text) (length text) k
    none below)
