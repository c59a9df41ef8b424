-- How the characters of a text change with its bytes.
use Rattle.std.proofs.Common.{arith, ap, sym, subst, refl, ◌∙◌, ◌≡◌, ◌<◌, ◌++◌, ◌∷◌, [], ℕ, List}
use Rattle.std.proofs.Common.{Bool, true, false, ◌==◌, MatchBool, Option, Some, None, IsSome}
use Rattle.std.proofs.Common.{IfSome, rules, length, take, drop, append-nil, length-append}
use Rattle.std.proofs.Common.{encode_utf8}
use Rattle.std.proofs.lemmas.Bool.Decides.{nat_tests}
use Rattle.std.proofs.lemmas.Fn.{filter_same}
use Rattle.std.proofs.lemmas.List.{nil_from_length, take-append-drop}
use Rattle.std.proofs.lemmas.Str.{IsUtf8-past_char, IsUtf8-string_bytes, chars-nil}
use Rattle.std.proofs.lemmas.Str.{chars_from_encodes, chars_past_char, encodes-append}
use Rattle.std.proofs.lemmas.Str.{encodes-chars, length-encode, len_utf8_bounds}
use Rattle.std.specs.Iterator.{ActsAs}
use Rattle.std.specs.List.{filter}
use Rattle.std.specs.String.{RetainsChars, string_bytes}
use Rattle.std.specs.declared.string.String.{String}
use Rattle.std.specs.Str.{IsUtf8, chars, encode_utf8_all}
use denote.Param.Members.{Mut}

-- The text bs is the text ds and then the character c.
pub chars_ended : (bs ds : List ℕ) (c : ℕ) → IsUtf8 bs → IsUtf8 ds → bs ≡ ds ++ encode_utf8 c
    → chars bs ≡ chars ds ++ c ∷ []
chars_ended bs ds c whole front same =
    sym (chars_from_encodes (chars ds ++ c ∷ []) bs whole spelled)
  where
    spelled : encode_utf8_all (chars ds ++ c ∷ []) ≡ bs
    spelled = encodes-append (chars ds) (c ∷ [])
        ∙ ap (λ l. l ++ (encode_utf8 c ++ [])) (encodes-chars ds front)
        ∙ ap (λ l. ds ++ l) (append-nil (encode_utf8 c)) ∙ sym same

-- A text that is not empty has a character.
pub some_char : (bs : List ℕ) → IsUtf8 bs → 0 < length bs → 0 < length (chars bs)
some_char bs valid some = by (chars bs) (encodes-chars bs valid)
  where
    by : (cs : List ℕ) → encode_utf8_all cs ≡ bs → 0 < length cs
    by [] e = omega (arith, some, ap length e)
    by (c ∷ cs) e = omega arith

-- A text of more than four bytes has more than one character.
pub two_chars : (bs : List ℕ) → IsUtf8 bs → 4 < length bs → 1 < length (chars bs)
two_chars bs valid long = by (chars bs) (encodes-chars bs valid)
  where
    by : (cs : List ℕ) → encode_utf8_all cs ≡ bs → 1 < length cs
    by [] e = omega (arith, long, ap length e)
    by (c ∷ []) e = grind (
      arith,
      long,
      ap length e,
      length-append (encode_utf8 c) [],
      length-encode c,
      len_utf8_bounds c,
    )
    by (c ∷ d ∷ cs) e = omega arith

-- A text with a character is not empty.
pub some_byte : (bs : List ℕ) → 0 < length (chars bs) → 0 < length bs
some_byte [] some = omega (arith, some, ap length chars-nil)
some_byte (b ∷ bs) some = omega arith

-- The bytes of a `String` are UTF-8.
pub valid : {Z : Type 0} (s : String Z) (bs : List ℕ) → string_bytes s ≡ bs → IsUtf8 bs
valid s bs same = subst IsUtf8 same (IsUtf8-string_bytes s)

-- A text that begins with a character is not empty.
pub some_encoded : (bs rest : List ℕ) (c : ℕ) → bs ≡ encode_utf8 c ++ rest → 0 < length bs
some_encoded bs rest c same = grind (
  arith,
  ap length same,
  length-append (encode_utf8 c) rest,
  length-encode c,
  len_utf8_bounds c,
)

-- The text bs is the character c.
pub chars_one : (bs : List ℕ) (c : ℕ) → IsUtf8 bs → bs ≡ encode_utf8 c → chars bs ≡ c ∷ []
chars_one bs c whole same =
    chars_past_char bs [] c whole (same ∙ sym (append-nil (encode_utf8 c)))
    ∙ ap (λ l. c ∷ l) chars-nil

only_char : (bs rest : List ℕ) (c : ℕ) → chars bs ≡ c ∷ chars rest → length rest ≡ 0
    → length (chars bs) ≡ 1
only_char bs rest c begun none =
    let nothing = nil_from_length rest none in
    let no_char : chars rest ≡ [] = ap chars nothing ∙ chars-nil in
    omega (arith, ap length begun, ap length no_char)

more_chars : (bs rest : List ℕ) (c : ℕ) → chars bs ≡ c ∷ chars rest → IsUtf8 rest
    → 0 < length rest → 1 < length (chars bs)
more_chars bs rest c begun after some = omega (arith, ap length begun, some_char rest after some)

-- A text has one character if nothing follows its first, and more otherwise.
pub one_or_more : (b : Bool) (bs rest : List ℕ) (c : ℕ) → b ≡ (length rest == 0) → IsUtf8 bs
    → bs ≡ encode_utf8 c ++ rest → MatchBool b (length (chars bs) ≡ 1) (1 < length (chars bs))
one_or_more b bs rest c test whole same = by b test
  where
    begun : chars bs ≡ c ∷ chars rest
    begun = chars_past_char bs rest c whole same

    by : (b : Bool) → b ≡ (length rest == 0)
        → MatchBool b (length (chars bs) ≡ 1) (1 < length (chars bs))
    by true t = only_char bs rest c begun (grind (arith, nat_tests, t))
    by false t = more_chars bs rest c begun (IsUtf8-past_char bs rest c whole same)
        (grind (arith, nat_tests, t))

-- The same of the character that `pop` returns, if there is one.
pub ended_if : (o : Option ℕ) (bs text ds : List ℕ) → bs ≡ text → IsUtf8 bs → IsUtf8 ds
    → IfSome o (λ c. bs ≡ ds ++ encode_utf8 c) → IfSome o (λ c. chars text ≡ chars ds ++ c ∷ [])
ended_if (Some c) bs text ds same whole front cut =
    ap chars (sym same) ∙ chars_ended bs ds c whole front cut
ended_if None bs text ds same whole front cut = cut

-- A text of more than one character keeps a byte when its last character leaves.
pub keeps_front : (o : Option ℕ) (bs ds : List ℕ) → IsSome o → IsUtf8 bs
    → IfSome o (λ c. bs ≡ ds ++ encode_utf8 c) → 1 < length (chars bs) → 0 < length ds
keeps_front (Some c) bs [] some whole same more =
    omega (arith, more, ap length (chars_one bs c whole same))
keeps_front (Some c) bs (d ∷ ds) some whole same more = omega arith
keeps_front None bs ds some whole same more = search rules

no_parts : (xs ys : List ℕ) → [] ≡ xs ++ ys → (xs ≡ []) × (ys ≡ [])
no_parts [] ys none = (refl, sym none)
no_parts (x ∷ xs) ys none = absurd (omega (arith, ap length none))

-- A text of more than one character keeps a byte when a character leaves.
pub keeps_rest : (bs left rest : List ℕ) (idx c : ℕ) → IsUtf8 bs
    → drop idx bs ≡ encode_utf8 c ++ rest → left ≡ take idx bs ++ rest → 1 < length (chars bs)
    → 0 < length left
keeps_rest bs (b ∷ left) rest idx c whole cut kept more = omega arith
keeps_rest bs [] rest idx c whole cut kept more =
    omega (arith, more, ap length (chars_one bs c whole alone))
  where
    parts : (take idx bs ≡ []) × (rest ≡ [])
    parts = no_parts (take idx bs) rest kept

    alone : bs ≡ encode_utf8 c
    alone = sym (take-append-drop idx bs) ∙ ap (λ l. l ++ drop idx bs) parts.0 ∙ cut
        ∙ ap (λ l. encode_utf8 c ++ l) parts.1 ∙ append-nil (encode_utf8 c)

-- The text of some characters and one more.
pub pushed : (cs old new : List ℕ) (c : ℕ) → new ≡ old ++ encode_utf8 c → old ≡ encode_utf8_all cs
    → new ≡ encode_utf8_all (cs ++ c ∷ [])
pushed cs old new c added spelled = added ∙ ap (λ l. l ++ encode_utf8 c) spelled
    ∙ ap (λ l. encode_utf8_all cs ++ l) (sym (append-nil (encode_utf8 c)))
    ∙ sym (encodes-append cs (c ∷ []))

-- The characters that `retain` keeps by a test.
pub kept_chars : {F : Type 0} (g : Mut F (ℕ × Unit {0}) Bool) (f : F) (bs out : List ℕ)
    → IsUtf8 bs → IsUtf8 out → RetainsChars g f bs out → (keeps : ℕ → Bool) → ActsAs g f keeps
    → chars out ≡ filter keeps (chars bs)
kept_chars g f bs out whole left r keeps acts =
    sym (chars_from_encodes r.kept out left (sym r.stay))
    ∙ filter_same _ keeps f (λ x b q call. let it = acts x b q call in (it.1, it.0)) r.all r.kept
    r.chosen ∙ ap (filter keeps) (chars_from_encodes r.all bs whole r.spell)
