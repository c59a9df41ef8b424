-- The precondition of searches, `retain`, `retain_mut` and `map_in_place` on a closure: it may be
-- called with items of a list, in any order. And what a search by a key finds. The precondition is
-- a record, as the automatic proof finds one where it is known.
use Rattle.std.specs.Prelude.{◌≡◌, ℕ, List, All, Contains, Some, slice_get, map}
use Rattle.std.specs.Borrow.{Bor, MutBor}
use Rattle.std.specs.Fn.{Mut, Called, CalledAt, CalledAtMut, Takes, TakesAt}
use Rattle.std.specs.List.{FoldsTo}
use Rattle.std.specs.declared.cmp.Ordering.{Ordering}
use Rattle.std.specs.declared.cmp.Ordering.TheVariants.{Equal}

-- f may be called with each item of xs, also after any calls with items of xs.
pub record CallableAtItems {F A R : Type 0} (calls : Mut F (Bor A × Unit {0}) R) (f : F)
    (xs : List A) : Type 0 where
  pub at : (shown : List A) (g : F) → All (Contains xs) shown
      → FoldsTo (λ p x q. (r : R) × CalledAt calls p x r q) f shown g → All (TakesAt calls g) xs

-- f may be called with each item of xs by value, also after any such calls.
pub record CallableOnItems {F A R : Type 0} (calls : Mut F (A × Unit {0}) R) (f : F) (xs : List A)
    : Type 0 where
  pub at : (shown : List A) (g : F) → All (Contains xs) shown
      → FoldsTo (λ p x q. (r : R) × Called calls p (x, tt) r q) f shown g
      → All (λ x. Takes calls g (x, tt)) xs

-- f may be called with a `&mut` to x.
abbrev pub TakesAtMut : {F A R : Type 0} → Mut F (MutBor A × Unit {0}) (R × (MutBor A × Unit {0}))
    → F → A → Type 0
TakesAtMut {F} {A} calls f x = (y : MutBor A) → y.now ≡ x → Takes calls f (y, tt)

-- f may be called with a `&mut` to each item of xs, also after any calls with items of xs.
pub record CallableAtItemsMut {F A R : Type 0}
    (calls : Mut F (MutBor A × Unit {0}) (R × (MutBor A × Unit {0}))) (f : F) (xs : List A)
    : Type 0 where
  pub at : (shown : List A) (g : F) → All (Contains xs) shown
      → FoldsTo (λ p x q. (r : R) × (y : A) × CalledAtMut calls p x r q y) f shown g
      → All (TakesAtMut calls g) xs

-- There is an item at the index i, whose key equals k by cmp.
abbrev pub HasKeyAt : {A K : Type 0} → (A → K) → (K → K → Ordering) → K → List A → ℕ → Type 0
HasKeyAt {A} key cmp k xs i = (x : A) × (slice_get xs i ≡ Some x)
    × (slice_get (map key xs) i ≡ Some (key x)) × (cmp (key x) k ≡ Equal)
