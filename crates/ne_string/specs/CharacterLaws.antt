-- Proofs, for the implementations, that iterators over the characters and bytes of a text yield
-- what they have left, and yield an item first if there is one.
use Rattle.std.proofs.Common.{arith, ap, subst, refl, sym, ◌∙◌, ◌≡◌, ◌<◌, ◌++◌, ◌∷◌, [], ℕ, List}
use Rattle.std.proofs.Common.{length, true}
use Rattle.std.proofs.lemmas.List.{nil_from_length}
use Rattle.std.proofs.lemmas.Str.{IsUtf8-past_char, chars-nil, chars_past_char}
use Rattle.std.specs.Cmp.Lexicographic.{bytes_decides}
use Rattle.std.specs.Hash as fed
use Rattle.std.specs.Iterator.{DrainsIf}
use Rattle.std.specs.Str.{IsUtf8, bytes_eq, chars}
use Rattle.std.specs.Str.Iter.{bytes_rest, bytes_steps, chars_rest, chars_steps}
use Rattle.std.specs.declared.str.Bytes.{Bytes}
use Rattle.std.specs.declared.str.Chars.{Chars}
use Rattle.ne_vec.specs.Lists.{IsPrefix, Lists}
use Rattle.ne_vec.specs.ListLaws.{is_prefix, lists_of, triggered}
use Rattle.ne_iter.specs.Sources.{HasFirst}
use Rattle.ne_string.specs.Characters.{IteratesBytes, IteratesChars, ListsBytes, ListsChars}

pub HasFirst-chars : (it : Chars) → 0 < length (chars_rest it) → HasFirst chars_steps it
HasFirst-chars it some t ended = omega (arith, some, ended.0.0)

pub HasFirst-bytes : (it : Bytes) → 0 < length (bytes_rest it) → HasFirst bytes_steps it
HasFirst-bytes it some t ended = omega (arith, some, ended.0)

-- The characters yielded are a prefix of those left, and all of them if W holds.
spelled_prefix : {W : Type 0} (s : Chars) (ys : List ℕ) → IsUtf8 (chars_rest s)
    → DrainsIf chars_steps W s ys
    → (more : List ℕ) × (chars (chars_rest s) ≡ ys ++ more) × (W → more ≡ [])
spelled_prefix s [] u (t, e, fin) = (
  chars (chars_rest s),
  refl,
  λ w. ap (λ q. chars (chars_rest q)) e
      ∙ ap chars (nil_from_length (chars_rest t) (fin w).1.0.0) ∙ chars-nil,
)
spelled_prefix s (y ∷ ys) u (t, (j, st, run), fin) =
    let past = IsUtf8-past_char (chars_rest s) (chars_rest j) y u st.0 in
    let m = spelled_prefix j ys past (t, run, fin) in (
      m.0,
      chars_past_char (chars_rest s) (chars_rest j) y u st.0 ∙ ap (λ l. y ∷ l) m.1,
      m.2,
    )

module _ (bs : List ℕ) where
  chars_listed : (w : Chars) → chars_rest w ≡ bs
      → Lists IteratesChars chars_steps (λ c. c) w (chars bs)
  chars_listed w same = lists_of IteratesChars chars_steps w (chars bs) (λ it made whole ys given.
      let rest : chars_rest it ≡ bs = ap chars_rest made.1 ∙ same in
      let valid : IsUtf8 (chars_rest it) = subst (λ q. IsUtf8 (chars_rest q)) (sym made.1) made.2 in
      subst (λ l. IsPrefix whole (chars l) ys) rest (spelled_prefix it ys valid given))

  -- An iterator over the characters of a text yields them.
  pub lists_chars : (w : Chars) → chars_rest w ≡ bs → ListsChars w (chars bs)
  lists_chars w same = (triggered w (chars bs), chars_listed w same)

  bytes_listed : (w : Bytes) → bytes_rest w ≡ bs
      → Lists IteratesBytes bytes_steps (λ b. b) w bs
  bytes_listed w same = lists_of IteratesBytes bytes_steps w bs (λ it made whole ys given.
      subst (λ l. IsPrefix whole l ys) (ap bytes_rest made.1 ∙ same)
      (is_prefix bytes_steps bytes_rest (λ s t x st. st) (λ s t st. nil_from_length _ st.0) it ys
      given))

  -- An iterator over the bytes of a text yields them.
  pub lists_bytes : (w : Bytes) → bytes_rest w ≡ bs → ListsBytes w bs
  lists_bytes w same = (triggered w bs, bytes_listed w same)

-- Equal texts feed a hasher alike.
pub alike : (s t : List ℕ) → bytes_eq s t ≡ true → fed.str s ≡ fed.str t
alike s t same = ap fed.str ((bytes_decides s t).0 same)
