-- Each mode makes exactly one list of rows.
use Rattle.std.proofs.Common.{arith, sym, ap₂, ◌∙◌}
use Rattle.std.specs.Prelude.{◌≡◌, ℕ, ◌<◌, ◌≤◌, Bool, All, Contains, nat_eq, List, [], ◌∷◌, length}
use Rattle.std.specs.Prelude.{sum, refl}
use Rattle.std.specs.Bool.{beq}
use Rattle.nonempty_collections.specs.Divisions.{IsDivision, by_first, by_previous}
use Rattle.nonempty_collections.specs.KeyList.{key_list}
use Rattle.ne_runs.specs.Modes.{AreRows, ends_of, is_even, is_near}
use Rattle.ne_runs.specs.declared.mode.Mode.{Mode}
use Rattle.ne_runs.specs.declared.mode.Mode.TheVariants.{Ends, Stats, Equal, Parity, Distinct, Near}
use Rattle.ne_runs.specs.declared.mode.Mode.TheVariants.{Chain}

module _ (exists : (goes_on : List ℕ → ℕ → Bool) (xs : List ℕ)
    → (rs : List (List ℕ)) × IsDivision goes_on xs rs)
    (unique : (goes_on : List ℕ → ℕ → Bool) (xs : List ℕ) (rs others : List (List ℕ))
    → IsDivision goes_on xs rs → IsDivision goes_on xs others → rs ≡ others)
    (least_there : (x : ℕ) (xs : List ℕ)
    → (m : ℕ) × Contains (x ∷ xs) m × All (λ n. m ≤ n) (x ∷ xs))
    (greatest_there : (x : ℕ) (xs : List ℕ)
    → (m : ℕ) × Contains (x ∷ xs) m × All (λ n. n ≤ m) (x ∷ xs))
    (only_least : (xs : List ℕ) (m n : ℕ) → Contains xs m → All (λ x. m ≤ x) xs
    → Contains xs n → All (λ x. n ≤ x) xs → m ≡ n)
    (only_greatest : (xs : List ℕ) (m n : ℕ) → Contains xs m → All (λ x. x ≤ m) xs
    → Contains xs n → All (λ x. x ≤ n) xs → m ≡ n) where
  pub has_rows : (mode : Mode) (numbers : List ℕ) → 0 < length numbers → (rows : List (List ℕ))
      × AreRows mode numbers rows
  has_rows Ends numbers some = (ends_of numbers ∷ [], refl)
  has_rows Equal numbers some = exists (by_first nat_eq) numbers
  has_rows Parity numbers some = exists (by_first (λ m n. beq (is_even m) (is_even n))) numbers
  has_rows Distinct numbers some = (key_list nat_eq numbers ∷ [], refl)
  has_rows Near numbers some = exists (by_first is_near) numbers
  has_rows Chain numbers some = exists (by_previous is_near) numbers
  has_rows Stats [] some = absurd (omega (arith, some))
  has_rows Stats (n ∷ numbers) some =
      let least = least_there n numbers in
      let greatest = greatest_there n numbers in
      let row = least.0 ∷ greatest.0 ∷ sum (n ∷ numbers) ∷ [] in (
        row ∷ [],
        (least.0, greatest.0, (least.1, least.2), (greatest.1, greatest.2), refl),
      )

  pub only_rows : (mode : Mode) (numbers : List ℕ) (rows others : List (List ℕ))
      → AreRows mode numbers rows → AreRows mode numbers others → rows ≡ others
  only_rows Ends numbers rows others a b = a ∙ sym b
  only_rows Equal numbers rows others a b = unique (by_first nat_eq) numbers rows others a b
  only_rows Parity numbers rows others a b = unique (by_first (λ m n. beq (is_even m) (is_even n)))
      numbers rows others a b
  only_rows Distinct numbers rows others a b = a ∙ sym b
  only_rows Near numbers rows others a b = unique (by_first is_near) numbers rows others a b
  only_rows Chain numbers rows others a b = unique (by_previous is_near) numbers rows others a b
  only_rows Stats numbers rows others a b =
      a.4
      ∙ ap₂ (λ least greatest. (least ∷ greatest ∷ sum numbers ∷ []) ∷ [])
      (only_least numbers a.0 b.0 a.2.0 a.2.1 b.2.0 b.2.1)
      (only_greatest numbers a.1 b.1 a.3.0 a.3.1 b.3.0 b.3.1)
      ∙ sym b.4
