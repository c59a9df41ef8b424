-- The items that `skip` and `skip_while` yield.
use Rattle.std.specs.Prelude.{◌≡◌, ℕ, Bool, true, false, List, [], ◌∷◌, ◌++◌, ⊤, drop}
use Rattle.std.specs.Fn.{Mut, CalledAt}
use Rattle.std.specs.Borrow.{Bor}
use Rattle.ne_iter.specs.Calls.{ReturnsEachAt}

-- f, called with a reference to the first of the items ys, if there is one, may return false.
abbrev pub FailsFirst : {F A : Type 0} → Mut F (Bor A × Unit {0}) Bool → F → List A → Type 0
FailsFirst calls f [] = ⊤
FailsFirst {F} calls f (y ∷ ys) = (g : F) × CalledAt calls f y false g

module _ {U A : Type 0} (reads : Bool → U → List A → Type 0) where
  -- ys are the source's items from the first for which f returns false, which is its last call.
  pub record IsSkippedWhile {F : Type 0} (calls : Mut F (Bor A × Unit {0}) Bool) (source : U)
      (f : F) (whole : Bool) (ys : List A) : Type 0 where
    -- The items before the first one for which f returns false.
    pub skipped : List A
    pub f_then : F
    pub read : reads whole source (skipped ++ ys)
    pub called : ReturnsEachAt calls true f skipped f_then
    pub fails : FailsFirst calls f_then ys

-- ys are the source's items but the first n.
abbrev pub IsSkipped : {U A : Type 0} → (Bool → U → List A → Type 0) → ℕ → U → Bool → List A
    → Type 0
IsSkipped {A = A} reads n source whole ys = (xs : List A) × reads whole source xs × (ys ≡ drop n xs)
