-- The items that `take_while` yields.
use Rattle.std.specs.Prelude.{Bool, true, false, List, [], ◌∷◌, ◌++◌}
use Rattle.std.specs.Fn.{Mut, CalledAt}
use Rattle.std.specs.Borrow.{Bor}
use Rattle.std.specs.Prelude.{◌⊎◌}
use Rattle.ne_iter.specs.Calls.{ReturnsEachAt}

module _ {U A : Type 0} (reads : Bool → U → List A → Type 0) where
  -- The source yielded an item after xs, and f, called with a reference to it, returned false.
  pub record FailsAtItem {F : Type 0} (calls : Mut F (Bor A × Unit {0}) Bool) (source : U)
      (xs : List A) (f : F) : Type 0 where
    pub item : A
    pub f_then : F
    pub read : reads false source (xs ++ item ∷ [])
    pub called : CalledAt calls f item false f_then

-- xs are the items before the first one for which f returns false. That one is taken too.
abbrev pub IsTakenWhile : {U A F : Type 0} → (Bool → U → List A → Type 0)
    → Mut F (Bor A × Unit {0}) Bool → U → F → Bool → List A → Type 0
IsTakenWhile {F = F} reads calls source f whole xs = (g : F) × ReturnsEachAt calls true f xs g
    × (reads whole source xs ⊎ FailsAtItem reads calls source xs g)
