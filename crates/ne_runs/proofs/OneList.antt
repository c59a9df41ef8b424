-- Each text has exactly one list of lines.
use Rattle.std.proofs.Common.{◌≡◌, ◌≢◌, ℕ, inl, inr, Bool, true, false, cond, List, [], ◌∷◌, ◌++◌}
use Rattle.std.proofs.Common.{refl, sym, ap, append_assoc, arith, eqb, eqb-true}
use Rattle.std.specs.List.{flat_map, onto_first, AllByRecursion}
use Rattle.std.proofs.lemmas.Bool.{eqb-false}
use Rattle.std.proofs.lemmas.Bool.Decides.{nat_tests}
use Rattle.ne_runs.specs.Lines.{AreLines, EndsOpen, lines_of, ended}

abbrev NoFeed : List ℕ → Type 0
NoFeed line = AllByRecursion (λ byte. byte ≢ 10) line

not_feed : (byte : ℕ) → byte ≢ 10 → eqb byte 10 ≡ false
not_feed byte other = grind (arith, nat_tests)

lines_of-ended : (line rest : List ℕ) → NoFeed line
    → lines_of (line ++ (10 ∷ rest)) ≡ line ∷ lines_of rest
lines_of-ended [] rest free = refl
lines_of-ended (byte ∷ line) rest free = rw (not_feed byte free.0, lines_of-ended line rest free.1)

lines_of-single : (line : List ℕ) → NoFeed line → line ≢ [] → lines_of line ≡ line ∷ []
lines_of-single [] free some = absurd (some refl)
lines_of-single (byte ∷ []) free some = rw (not_feed byte free.0)
lines_of-single (byte ∷ next ∷ line) free some = rw
    (not_feed byte free.0, lines_of-single (next ∷ line) free.1 (λ e. cc))

-- The lines of a text in which each line is ended.
lines_of-all_ended : (lines : List (List ℕ)) → AllByRecursion NoFeed lines
    → lines_of (flat_map ended lines) ≡ lines
lines_of-all_ended [] free = refl
lines_of-all_ended (line ∷ lines) free =
    rw (
      append_assoc line (10 ∷ []) (flat_map ended lines),
      lines_of-ended line (flat_map ended lines) free.0,
      lines_of-all_ended lines free.1,
    )

-- The lines of a text in which the last line is open.
lines_of-open : (prefix : List (List ℕ)) (last : List ℕ)
    → AllByRecursion NoFeed (prefix ++ last ∷ [])
    → last ≢ [] → lines_of (flat_map ended prefix ++ last) ≡ prefix ++ last ∷ []
lines_of-open [] last free some = lines_of-single last free.0 some
lines_of-open (line ∷ prefix) last free some =
    rw (
      append_assoc line (10 ∷ []) (flat_map ended prefix),
      append_assoc line (10 ∷ flat_map ended prefix) last,
      lines_of-ended line (flat_map ended prefix ++ last) free.0,
      lines_of-open prefix last free.1 some,
    )

pub only_lines : (text : List ℕ) (lines : List (List ℕ)) → AreLines text lines
    → lines ≡ lines_of text
only_lines text lines are =
    elim are.joined [
      | inl whole ↦ sym (rw whole (lines_of-all_ended lines are.no_feed))
      | inr open_end ↦
          let free : AllByRecursion NoFeed (open_end.prefix ++ open_end.last ∷ []) = rw
          open_end.parts at are.no_feed in
          rw (open_end.joined, open_end.parts)
          (sym (lines_of-open open_end.prefix open_end.last free open_end.not_empty))
    ]

-- A line feed before a text adds an empty line.
with_feed : (text : List ℕ) (lines : List (List ℕ)) → AreLines text lines
    → AreLines (10 ∷ text) ([] ∷ lines)
with_feed text lines are = record {
  no_feed = (tt, are.no_feed);
  joined = elim are.joined [
    | inl whole ↦ inl (ap (λ t. 10 ∷ t) whole)
    | inr open_end ↦ inr (record {
      prefix = [] ∷ open_end.prefix;
      last = open_end.last;
      parts = ap (λ ls. [] ∷ ls) open_end.parts;
      not_empty = open_end.not_empty;
      joined = ap (λ t. 10 ∷ t) open_end.joined;
    })
  ];
}

-- A list with a last item is not empty.
no_last : {X : Type 0} (prefix : List X) (last : X) → [] ≡ prefix ++ last ∷ [] → ⊥
no_last [] last e = cc
no_last (x ∷ prefix) last e = cc

alone : (byte : ℕ) (text : List ℕ) → AreLines text [] → byte ∷ text ≡ byte ∷ []
alone byte text are =
    elim are.joined [
      | inl whole ↦ ap (λ t. byte ∷ t) whole
      | inr open_end ↦ absurd (no_last open_end.prefix open_end.last open_end.parts)
    ]

-- A byte before a text in which the last line is open.
onto_open : (byte : ℕ) (prefix : List (List ℕ)) (last line : List ℕ) (lines : List (List ℕ))
    (text : List ℕ) → line ∷ lines ≡ prefix ++ last ∷ [] → last ≢ []
    → text ≡ flat_map ended prefix ++ last → EndsOpen (byte ∷ text) ((byte ∷ line) ∷ lines)
onto_open byte [] last line lines text parts some joined = record {
  prefix = [];
  last = byte ∷ last;
  parts = cc;
  not_empty = λ e. cc;
  joined = ap (λ t. byte ∷ t) joined;
}
onto_open byte (first ∷ prefix) last line lines text parts some joined = record {
  prefix = (byte ∷ first) ∷ prefix;
  last = last;
  parts = cc;
  not_empty = some;
  joined = ap (λ t. byte ∷ t) joined;
}

-- Any other byte before a text is added to the first line.
with_byte : (byte : ℕ) → byte ≢ 10 → (text : List ℕ) (lines : List (List ℕ)) → AreLines text lines
    → AreLines (byte ∷ text) (onto_first byte lines)
with_byte byte other text [] are = record {
  no_feed = ((other, tt), tt);
  joined = inr (record {
    prefix = [];
    last = byte ∷ [];
    parts = refl;
    not_empty = λ e. cc;
    joined = alone byte text are;
  });
}
with_byte byte other text (line ∷ lines) are = record {
  no_feed = ((other, are.no_feed.0), are.no_feed.1);
  joined = elim are.joined [
    | inl whole ↦ inl (ap (λ t. byte ∷ t) whole)
    | inr open_end ↦ inr (onto_open byte open_end.prefix open_end.last line lines text
        open_end.parts
        open_end.not_empty open_end.joined)
  ];
}

with_first : (byte : ℕ) (text : List ℕ) (lines : List (List ℕ)) (is_feed : Bool)
    → eqb byte 10 ≡ is_feed → AreLines text lines
    → AreLines (byte ∷ text) (cond is_feed ([] ∷ lines) (onto_first byte lines))
with_first byte text lines true e are = rw (eqb-true byte 10 e) (with_feed text lines are)
with_first byte text lines false e are = with_byte byte (eqb-false byte 10 e) text lines are

pub has_lines : (text : List ℕ) → AreLines text (lines_of text)
has_lines [] = record { no_feed = tt; joined = inl refl }
has_lines (byte ∷ text) = with_first byte text (lines_of text) (eqb byte 10) refl (has_lines text)
