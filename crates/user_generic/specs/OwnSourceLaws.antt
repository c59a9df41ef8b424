-- The laws of a user's own sources, which the implementations use.
use Rattle.std.proofs.Common.{arith, ap}
use Rattle.std.specs.Prelude.{◌≡◌, ◌<◌, ℕ, zero, suc, List, [], length}
use Rattle.user_generic.specs.OwnSources.{counted_down}

-- A countdown from one or more has an item.
pub some_counted : (m n : ℕ) → 0 < n → m ≡ n → counted_down m ≡ [] → ⊥
some_counted zero n some made ended = omega (arith, some, made)
some_counted (suc m) n some made ended = let none = ap length ended in omega (arith, none)

-- A list that equals a non-empty list is not empty.
pub some_left : {A : Type 0} (s it : List A) → 0 < length s → it ≡ s → it ≡ [] → ⊥
some_left s it some made ended = omega (arith, some, ap length made, ap length ended)
