-- A test of whether a text is the numeral of a number of 32 bits.
use Rattle.std.proofs.Common.{◌≡◌, ◌<◌, ◌^◌, ◌&&◌, List, ℕ, Bool, true, false, cond, ltb, length}
use Rattle.std.proofs.Common.{refl, ap}
use Rattle.std.proofs.lemmas.Bool.{false≢true, lt-ltb, ltb-true, and_from, and_parts}
use Rattle.std.proofs.lemmas.Str.Parse.{numerals_by_value, tells_all_ascii_digits}
use Rattle.std.specs.Prelude.{Some, None, Result, Ok, Err}
use Rattle.std.specs.Result.{OkIff, result_ok}
use Rattle.std.specs.Str.{all_ascii_digits}
use Rattle.std.specs.Str.Parse.{IsNumeral, digits_value}

pub value_by_test : {E : Type 0} (b : Bool) {P : Type 0} → (b ≡ true → P) → (P → b ≡ true)
    → (r : Result ℕ E) (v : ℕ) → OkIff r P v → result_ok r ≡ cond b (Some v) None
value_by_test true to from (Ok x) v h = ap Some h.1
value_by_test true to from (Err e) v h = absurd (h (to refl))
value_by_test false to from (Ok x) v h = absurd (false≢true (from h.0))
value_by_test false to from (Err e) v h = refl

abbrev pub is_numeral : List ℕ → Bool
is_numeral ds = ltb 0 (length ds) && all_ascii_digits ds && ltb (digits_value 10 ds) (2 ^ 32)

pub numeral_passes : (ds : List ℕ) → IsNumeral 10 ds × (digits_value 10 ds < 2 ^ 32)
    → is_numeral ds ≡ true
numeral_passes ds h =
    let own = numerals_by_value (λ ds. all_ascii_digits ds ≡ true) tells_all_ascii_digits in
    and_from _ _ (and_from _ _ (lt-ltb _ _ h.0.0) (own.from ds h.0.1)) (lt-ltb _ _ h.1)

pub passes_numeral : (ds : List ℕ) → is_numeral ds ≡ true
    → IsNumeral 10 ds × (digits_value 10 ds < 2 ^ 32)
passes_numeral ds h =
    let own = numerals_by_value (λ ds. all_ascii_digits ds ≡ true) tells_all_ascii_digits in
    let prefix = and_parts _ _ (and_parts _ _ h).0 in
    ((ltb-true _ _ prefix.0, own.to ds prefix.1), ltb-true _ _ (and_parts _ _ h).1)
