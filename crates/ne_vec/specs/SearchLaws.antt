-- Laws for who searches a list: the calls that a search makes of its closure, also of a closure
-- that calls another one with the same item, and what a search by a test finds.
use Rattle.std.proofs.Common.{◌≡◌, ◌⊎◌, inl, inr, ℕ, ◌<◌, Bool, true, false, List, [], ◌∷◌, length}
use Rattle.std.proofs.Common.{refl, sym, ap, subst, ◌∙◌, arith}
use Rattle.std.proofs.lemmas.Fn.{always_returns_same, answers_by}
use Rattle.std.proofs.lemmas.List.Elements.{All-cons}
use Rattle.std.specs.Prelude.{cond, slice_index_or, ◌≤◌, Contains, Result, Ok, Err}
use Rattle.std.specs.Borrow.{Bor}
use Rattle.std.specs.Fn.{Mut, CalledAt, TakesAt, ComputesKey}
use Rattle.std.specs.Iterator.{ActsAsAt}
use Rattle.std.specs.List.{FoldsTo}
use Rattle.std.specs.List.Sorted.{IsBinarySearchResult, IsPartitionedBy, IsPartitionPoint}
use Rattle.std.specs.Ordering.{ordering_index}
use Rattle.std.specs.declared.cmp.Ordering.{Ordering}
use Rattle.std.specs.declared.cmp.Ordering.TheVariants.{Less, Equal, Greater}
use Rattle.core.proofs.slice.Orders.{answers_next}
use Rattle.ne_vec.specs.Searches.{CallableAtItems}

module _ {F A R : Type 0} (calls : Mut F (Bor A × Unit {0}) R) (xs : List A) where
  -- The closure may still be called after a call with an item.
  pub items_next : (f : F) (i : ℕ) (x : A) (r : R) (g : F) → i < length xs
      → x ≡ slice_index_or xs i x → CalledAt calls f x r g
      → CallableAtItems calls f xs → CallableAtItems calls g xs
  items_next f i x r g inside read called callable =
      record {
        at = λ shown h among folds. callable.at (x ∷ shown) h
            (All-cons (Contains xs) x shown (i, inside, sym read) among) (g, (r, called), folds);
      }

  -- The closure may be called with the item at a place.
  pub items_take : (f : F) (i : ℕ) (x : Bor A) → i < length xs
      → x.now ≡ slice_index_or xs i x.now → CallableAtItems calls f xs → calls.pre f (x, tt)
  items_take f i x inside read callable =
      callable.at [] f (λ k d h. absurd (omega arith)) refl i x.now inside x read

-- A closure that acts as a function returns its values.
pub computes : {F A K : Type 0} (calls : Mut F (Bor A × Unit {0}) K) (f : F) (key : A → K)
    → ActsAsAt calls f key → ComputesKey calls key f
computes calls f key acts =
    always_returns_same calls (λ a r. r ≡ key a.0.now) f (λ a r g called.
    let s = acts a.0.now r g (record { shown = a.0; shows = refl; called = called }) in (s.1, s.0))

-- A closure each of whose calls calls another one, `under` it, with the same item.
module _ {F G A K R : Type 0} (inner : Mut F (Bor A × Unit {0}) K)
    (outer : Mut G (Bor A × Unit {0}) R) (under : G → F) (fixed : G → Type 0) (of : K → R)
    (calls : (g h : G) (x : A) (r : R) → CalledAt outer g x r h → (k : K)
    × CalledAt inner (under g) x k (under h) × (fixed g → (r ≡ of k) × fixed h)) where
  folds_under : (xs : List A) (g h : G) → FoldsTo (λ p x q. (r : R) × CalledAt outer p x r q) g xs h
      → FoldsTo (λ p x q. (k : K) × CalledAt inner p x k q) (under g) xs (under h)
  folds_under [] g h same = ap under same
  folds_under (x ∷ xs) g h (j, (r, called), later) =
      let s = calls g j x r called in
      (under j, (s.0, s.1), folds_under xs j h later)

  pub callable_under : (g : G) (xs : List A)
      → ((h : G) (x : A) → TakesAt inner (under h) x → TakesAt outer h x)
      → CallableAtItems inner (under g) xs → CallableAtItems outer g xs
  callable_under g xs takes callable =
      record {
        at = λ shown h among folds k d inside.
            takes h _ (callable.at shown (under h) among (folds_under shown g h folds) k d inside);
      }

  pub computes_under : (key : A → K) (g : G) → fixed g → ComputesKey inner key (under g)
      → ComputesKey outer (λ y. of (key y)) g
  computes_under key g fix computes =
      answers_by outer (λ a r. r ≡ of (key a.0.now))
      (λ h. fixed h × ComputesKey inner key (under h))
      (λ h a r j called i.
      let s = calls h j a.0.now r (record { shown = a.0; shows = refl; called = called }) in
      let n = answers_next inner _ _ _ _ _ s.1.called i.1 in
      let t = s.2 i.0 in
      (t.0 ∙ ap of (n.0 ∙ ap key s.1.shows), (t.1, n.1)))
      g (fix, computes)

-- How a test is searched by: items that meet it are less.
abbrev pub side : Bool → Ordering
side met = cond met Less Greater

side_is : (b : Bool) → (side b ≡ Less → b ≡ true) × (side b ≡ Greater → b ≡ false)
    × (side b ≡ Equal → ⊥)
side_is true = (λ e. refl, λ e. absurd cc, λ e. cc)
side_is false = (λ e. absurd cc, λ e. refl, λ e. cc)

rises : (p q : Bool) → (q ≡ true → p ≡ true)
    → ordering_index (side p) ≤ ordering_index (side q)
rises true q h = omega arith
rises false true h = let e = h refl in absurd cc
rises false false h = omega arith

-- From such a search to the place between the items that meet the test and the others.
pub partition_of : {A : Type 0} (meets : A → Bool) (xs : List A) (r : Result ℕ ℕ) (i : ℕ)
    → IsPartitionedBy meets xs → IsBinarySearchResult (λ y. side (meets y)) xs r
    → (r ≡ Ok i) ⊎ (r ≡ Err i)
    → IsPartitionPoint (λ y. meets y ≡ true) (λ y. meets y ≡ false) xs i
partition_of meets xs r i parted found (inl e) =
    let equal = subst (IsBinarySearchResult (λ y. side (meets y)) xs) e found in
    (λ k d a b. absurd ((side_is _).2 (equal d)), λ k d a b. absurd ((side_is _).2 (equal d)))
partition_of meets xs r i parted found (inr e) =
    let sides = subst (IsBinarySearchResult (λ y. side (meets y)) xs) e found
    (λ k j d a b. rises _ _ (parted k j d a b)) in
    (λ k d a b. (side_is _).0 (sides.0 k d a b), λ k d a b. (side_is _).1 (sides.1 k d a b))
