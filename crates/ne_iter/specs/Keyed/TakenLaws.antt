-- Proof, for the crates of maps and sets, that a removal takes what is found if there is more than
-- one entry before it. In each, `result` is what the inner collection's removal returned.
use Rattle.std.proofs.Common.{◌≡◌, ◌<◌, ◌⊎◌, Bool, true, false, List, Option, None, Some, arith}
use Rattle.std.proofs.Common.{inl, inr, length, refl, sym, ◌∙◌}
use Rattle.std.specs.Prelude.{IfNone, IfSome}
use Rattle.std.specs.Bool.{OnFalse, OnTrue}
use Rattle.ne_vec.specs.Taken.{RemovesFoundUnlessLast, TakesFoundUnlessLast}

-- What holds in every case holds if there is a value.
pub if_some : {A : Type 0} (o : Option A) {P : Type 0} → P → IfSome o (λ _. P)
if_some None p = tt
if_some (Some x) p = p

-- The same of a `bool`.
pub on_true : (b : Bool) {P : Type 0} → P → OnTrue b P
on_true false p = tt
on_true true p = p

module _ {A : Type 0} (old new : List A) (many : 1 < length old) (Left : Type 0) where
  pub takes_found : {B : Type 0} (found result : Option B) → result ≡ found
      → IfNone result (new ≡ old) → Left
      → TakesFoundUnlessLast (found ≡ None) old new result (λ v. (found ≡ Some v) × Left)
  takes_found found None is same left = ((λ n. inl (sym is), λ either. refl), same)
  takes_found {B} found (Some v) is same left =
      ((λ n. inl (sym is ∙ n), λ either. by either), (sym is, left))
    where
      by : (found ≡ None) ⊎ (length old ≡ 1) → Some v ≡ None
      by (inl n) = is ∙ n
      by (inr one) = absurd (omega (arith, many, one))

  pub removes_found : (found result : Bool) → result ≡ found → OnFalse result (new ≡ old) → Left
      → RemovesFoundUnlessLast (found ≡ false) old new result Left
  removes_found found false is same left = ((λ n. inl (sym is), λ either. refl), same)
  removes_found found true is same left = ((λ n. inl (sym is ∙ n), λ either. by either), left)
    where
      by : (found ≡ false) ⊎ (length old ≡ 1) → true ≡ false
      by (inl n) = is ∙ n
      by (inr one) = absurd (omega (arith, many, one))
