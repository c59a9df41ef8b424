-- The order that a sort by a comparison makes. `grind` unfolds neither `ItemsAscend` nor
-- `KeepsTiesOf`.
use Rattle.std.specs.Prelude.{◌≡◌, ℕ, ℤ, List}
use Rattle.std.specs.Borrow.{Bor}
use Rattle.std.specs.Cmp.Lexicographic.{slice_cmp}
use Rattle.std.specs.Fn.{CalledAtTwo, Mut}
use Rattle.std.specs.Ordering.{int_cmp, is_eq, nat_cmp, ordering_then}
use Rattle.std.specs.declared.cmp.Ordering.{Ordering}
use Rattle.ne_vec.specs.KeyOrder.{KeysAscend, KeepsTies}

-- An order of items: by a number or a text that each has, the reverse of an order, or one order and
-- then another where the first ties.
pub data Order (A : Type 0) : Type 0 where
  by_number : (A → ℕ) → Order A
  by_signed : (A → ℤ) → Order A
  by_text : (A → List ℕ) → Order A
  reversed : Order A → Order A
  and_then : Order A → Order A → Order A

-- How the order compares x with y.
abbrev pub compare : {A : Type 0} → Order A → A → A → Ordering
compare (by_number number) x y = nat_cmp (number x) (number y)
compare (by_signed number) x y = int_cmp (number x) (number y)
compare (by_text text) x y = slice_cmp nat_cmp (text x) (text y)
compare (reversed order) x y = compare order y x
compare (and_then first second) x y = ordering_then (compare first x y) (compare second x y)

module _ {A : Type 0} (order : Order A) where
  -- The items ascend: no later item is less than an earlier one.
  unfoldable pub ItemsAscend : List A → Type 0
  ItemsAscend xs = KeysAscend (λ x. x) (compare order) xs

  -- Items that tie are in ys in the order that they have in xs.
  unfoldable pub KeepsTiesOf : List A → List A → Type 0
  KeepsTiesOf xs ys = KeepsTies (λ x. x) (λ y x. is_eq (compare order y x)) xs ys

-- Each call of f with two items returns how the order compares them, and leaves f as it was.
abbrev pub ComparesBy : {A F : Type 0} → Mut F (Bor A × (Bor A × Unit {0})) Ordering → F
    → Order A → Type 0
ComparesBy {A} {F} calls f order = (x y : A) (r : Ordering) (f_then : F)
    → CalledAtTwo calls f x y r f_then → (f_then ≡ f) × (r ≡ compare order x y)
