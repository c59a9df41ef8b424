-- A total that is checked at each step is `Some` if and only if the whole sum fits.
use Rattle.std.proofs.Common.{◌≡◌, ◌+◌, ◌<◌, ◌≤◌, ◌^◌, ℕ, List, [], ◌∷◌, Bool, true, false, cond}
use Rattle.std.proofs.Common.{ltb, refl, arith, fold, is_some}
use Rattle.std.proofs.lemmas.Bool.{ltb-true, ltb-false}
use Rattle.std.specs.Prelude.{Some, None}
use Rattle.user_programs.specs.Reports.{plus}

abbrev from : ℕ → List ℕ → ℕ
from t ns = fold (λ a x. a + x) t ns

at_least : (t : ℕ) (ns : List ℕ) → t ≤ from t ns
at_least t [] = omega arith
at_least t (n ∷ ns) = let more = at_least (t + n) ns in omega (arith, more)

none_stays : (ns : List ℕ) → fold plus None ns ≡ None
none_stays [] = refl
none_stays (n ∷ ns) = none_stays ns

not_below : (m n : ℕ) → n ≤ m → ltb m n ≡ false
not_below m n h = grind arith

some_if : (t n : ℕ) (ns : List ℕ) (b : Bool) → ltb (t + n) (2 ^ 64) ≡ b
    → (t + n < 2 ^ 64 → is_some (fold plus (Some (t + n)) ns) ≡ ltb (from (t + n) ns) (2 ^ 64))
    → is_some (fold plus (cond b (Some (t + n)) None) ns) ≡ ltb (from (t + n) ns) (2 ^ 64)
some_if t n ns true is fits = fits (ltb-true _ _ is)
some_if t n ns false is fits =
    let more = at_least (t + n) ns in
    let least = ltb-false (t + n) (2 ^ 64) is in
    rw (none_stays ns, not_below (from (t + n) ns) (2 ^ 64) (omega (arith, more, least))) refl

pub is_there : (t : ℕ) (ns : List ℕ) → t < 2 ^ 64
    → is_some (fold plus (Some t) ns) ≡ ltb (fold (λ a x. a + x) t ns) (2 ^ 64)
is_there t [] less = grind (arith, less)
is_there t (n ∷ ns) less =
    some_if t n ns (ltb (t + n) (2 ^ 64)) refl (λ fits. is_there (t + n) ns fits)
