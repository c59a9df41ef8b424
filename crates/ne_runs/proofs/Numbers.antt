-- The numbers of lines: the number that digits write, and the first bad line.
use Rattle.std.proofs.Common.{◌≡◌, ℕ, ◌+◌, ◌^◌, ◌<◌, ◌≤◌, false, true, List, length, None, Some}
use Rattle.std.proofs.Common.{arith, ltb, sym, rules}
use Rattle.std.specs.List.{position_or_len}
use Rattle.std.proofs.Math.Nat.{pow-le-pow_right}
use Rattle.std.proofs.lemmas.Bool.Decides.{nat_tests}
use Rattle.std.specs.Str.{all_ascii_digits}
use Rattle.std.specs.Str.Parse.{digits_value}
use Rattle.std.specs.Fmt.{decimal}
use Rattle.std.proofs.lemmas.Str.Parse.{IsNumeralModel, tells_all_ascii_digits, numerals_by_weight}
use Rattle.std.proofs.lemmas.Str.Parse.{numerals_by_value}
use Rattle.std.proofs.lemmas.Fmt.{digits_decimal, digits_value-decimal, decimal_nonempty}
use Rattle.std.proofs.lemmas.Fmt.{length-decimal-le}
use Rattle.ne_runs.specs.Lines.{is_bad, is_number, number_of, place_value}
use Rattle.ne_runs.specs.Faults.{bad_line}
use Rattle.ne_runs.specs.declared.fault.Fault.TheVariants.{BadLine}

-- After at most eight digits there is room for one more.
pub nine_digits_fit : (value count : ℕ) → value < 10 ^ count → count < 9 → value < 100000000
nine_digits_fit value count below few =
    let most : 10 ^ count ≤ 10 ^ 8 = pow-le-pow_right {n = 10} (omega arith) {i = count} {j = 8}
    (omega arith) in omega (arith, most)

-- No line is bad.
pub bad_line-none : (lines : List (List ℕ)) → position_or_len is_bad lines ≡ length lines
    → bad_line lines ≡ None
bad_line-none lines e = let past : ltb (length lines) (length lines)
    ≡ false = grind (arith, nat_tests) in rw (e, past)

-- The first bad line is at this index.
pub bad_line-some : (lines : List (List ℕ)) (place : ℕ) → position_or_len is_bad lines ≡ place
    → place < length lines → bad_line lines ≡ Some (BadLine (place + 1))
bad_line-some lines place e inside = let within : ltb place (length lines)
    ≡ true = grind (arith, nat_tests) in rw (e, within)

-- Digits, and the number that they write by the weights of their places.
weighs : IsNumeralModel (λ line. all_ascii_digits line ≡ true) place_value
weighs = numerals_by_weight _ tells_all_ascii_digits place_value (search rules)

-- Digits, and the number that std reads from them.
reads : IsNumeralModel (λ line. all_ascii_digits line ≡ true) (digits_value 10)
reads = numerals_by_value _ tells_all_ascii_digits

digits_of_number : (line : List ℕ) → is_number line ≡ true → all_ascii_digits line ≡ true
digits_of_number line good = grind (arith, nat_tests)

pub number_of-weighed : (line : List ℕ) → is_number line ≡ true → number_of line ≡ place_value line
number_of-weighed line good = sym (weighs.same line (weighs.to line (digits_of_number line good)))

pub is_number-decimal : (n : ℕ) → n < 10 ^ 9 → is_number (decimal n) ≡ true
is_number-decimal n few =
    let small : n < 2 ^ 64 = omega arith in
    let some = decimal_nonempty n small in
    let short = length-decimal-le 9 n (omega arith) few small in
    let digits = digits_decimal reads n small in
    grind (arith, nat_tests)

pub number_of-decimal : (n : ℕ) → n < 10 ^ 9 → number_of (decimal n) ≡ n
number_of-decimal n few = digits_value-decimal reads n (omega arith)
