-- Rows of numbers, as they are written.
use Rattle.std.proofs.Common.{◌≡◌, ℕ, ◌≤◌, List, [], ◌∷◌, ◌++◌, length, map, drop, cond, Result, Ok}
use Rattle.std.proofs.Common.{Err, is_ok, OnOk, sym, ◌∙◌, ap, append_assoc, append-nil}
use Rattle.std.specs.List.{flat_map, join_with_byte}
use Rattle.std.specs.Borrow.{Bor}
use Rattle.std.specs.Fmt.{decimal}
use Rattle.std.specs.Iterator.{Yields}
use Rattle.std.specs.Map.Iter.{TakesFirst, deref}
use Rattle.std.proofs.lemmas.List.{drop_all}
use Rattle.ne_runs.specs.Modes.{row_text}

-- A number after another one.
abbrev pub behind : ℕ → List ℕ
behind n = 32 ∷ decimal n

join-cons : (first : ℕ) (rest : List ℕ) → join_with_byte 32 (map decimal (first ∷ rest))
    ≡ decimal first ++ flat_map behind rest
join-cons first [] = sym (append-nil (decimal first))
join-cons first (next ∷ rest) = ap (λ t. decimal first ++ (32 ∷ t)) (join-cons next rest)

-- A line feed ends the row: `begun` is the text with its first number, `written` that with all.
pub row_written : {E : Type 0} (r : Result (Unit {0}) E) (old begun written new : List ℕ)
    (first : ℕ) (rest : List ℕ) → begun ≡ old ++ decimal first
    → written ≡ begun ++ flat_map behind rest → new ≡ cond (is_ok r) (written ++ 10 ∷ []) written
    → OnOk r (new ≡ old ++ row_text (first ∷ rest))
row_written (Ok done) old begun written new first rest begins whole ends =
    rw (ends, whole, begins, join-cons first rest) (simp append_assoc)
row_written (Err error) old begun written new first rest begins whole ends = tt

-- A line feed ends the row if no number from the index i on is left to write.
pub row_ended : {E : Type 0} (r : Result (Unit {0}) E) (old begun written new : List ℕ) (first : ℕ)
    (rest : List ℕ) (i : ℕ) → begun ≡ old ++ decimal first
    → written ++ flat_map behind (drop i rest) ≡ begun ++ flat_map behind rest → length rest ≤ i
    → new ≡ cond (is_ok r) (written ++ 10 ∷ []) written
    → OnOk r (new ≡ old ++ row_text (first ∷ rest))
row_ended r old begun written new first rest i begins goes_on all ends =
    let none_left : flat_map behind (drop i rest)
    ≡ [] = ap (flat_map behind) (drop_all i rest all) in
    let whole : written ≡ begun ++ flat_map behind rest = sym (append-nil written)
    ∙ ap (λ t. written ++ t) (sym none_left) ∙ goes_on in
    row_written r old begun written new first rest begins whole ends

-- An iterator that has no item left has yielded all items that it had.
pub walked : (s t : List ℕ) (xs : List (Bor ℕ)) → Yields (TakesFirst deref) s xs t → t ≡ []
    → flat_map (λ n. behind n.now) xs ≡ flat_map behind s
walked s t [] gave none = sym (ap (flat_map behind) (gave ∙ none))
walked s t (x ∷ xs) gave none = ap (λ l. behind x.now ++ l) (walked gave.0 t xs gave.2 none)
    ∙ sym (ap (flat_map behind) gave.1)
