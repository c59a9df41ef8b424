-- `peekable`: its parts, and what it yields.
use Rattle.std.specs.Prelude.{◌≡◌, ◌∷◌, [], ℕ, Bool, List, Option, Some, IfSome, false, true, map}
use Rattle.std.specs.Prelude.{slice_get}
use Rattle.std.specs.Iterator.Adapters.{chain_steps, once_steps, once_item, chain_first}
use Rattle.std.specs.Iterator.Adapters.{chain_second, chain_first_done, chain_second_done}
use Rattle.std.specs.Iterator.Runs.{Run, Trigger}
use Rattle.std.specs.declared.iter.Chain.{Chain}
use Rattle.std.specs.declared.iter.Once.{Once}
use Rattle.ne_vec.specs.Lists.{View}
use Rattle.ne_iter.specs.declared.iter.peekable.Peekable.{Peekable}

-- The item that a `Peekable` has taken.
abbrev pub peekable_first : {I X : Type 0} → Peekable I X → X
peekable_first s = s.first

-- The iterator over what follows the first item.
abbrev pub peekable_rest : {I X : Type 0} → Peekable I X → I
peekable_rest s = s.rest

-- s with the first item x.
abbrev pub with_first : {I X : Type 0} → Peekable I X → X → Peekable I X
with_first s x = record s { first = x }

-- xs, with x in place of its first item.
abbrev pub with_head : {A : Type 0} → A → List A → List A
with_head x [] = []
with_head x (y ∷ xs) = x ∷ xs

-- `peekable` yields the source's items, with w, the item last written to the first place or the
-- first item itself, as the first.
abbrev pub PeekableGives : {U I A : Type 0} → (Bool → U → List A → Type 0)
    → (Bool → Peekable I A → List A → Type 0) → U → Peekable I A → Type 0
PeekableGives {A = A} reads peeked source result = (w : A) (whole : Bool) (zs : List A)
    → peeked whole (with_first result w) zs
    → reads whole source (with_head (peekable_first result) zs) × (zs ≡ with_head w zs)

-- The iterator is the chain of the first item, x, and `rest`.
abbrev pub PutsFirst : {I A : Type 0} → A → I → Chain (Once A) I → Type 0
PutsFirst x rest it = (once_item (chain_first it) ≡ Some x) × (chain_second it ≡ rest)
    × (chain_first_done it ≡ false) × (chain_second_done it ≡ false)

-- For the automatic proof: a whole run of a chain of one item and `rest` yields xs, with that item
-- in place of the first.
abbrev pub YieldsRest : {I A : Type 0} → (I → Option A → I → Type 0) → I → List A → Type 0
YieldsRest steps rest xs = (p : Run (chain_steps once_steps steps)) → Trigger p.len
    → chain_second p.from ≡ rest → chain_first_done p.from ≡ false
    → chain_second_done p.from ≡ false → p.whole ≡ true
    → IfSome (once_item (chain_first p.from)) (λ w. p.items ≡ with_head w xs)

-- For the automatic proof: xs, the list of the source through `view`, begins with the first item,
-- and a whole run of the iterator that the unchanged source v becomes yields xs through `view`.
abbrev pub YieldsPeeked : {I A : Type 0} (view : View A) → (I → Option A → I → Type 0)
    → Peekable I A → List view.Target → Type 0
YieldsPeeked view steps v xs = (slice_get xs 0 ≡ Some (view.of (peekable_first v)))
    × ((p : Run (chain_steps once_steps steps)) → Trigger p.len
    → PutsFirst (peekable_first v) (peekable_rest v) p.from → p.whole ≡ true
    → (map view.of p.items ≡ xs)
    × ((h : view.Target → ℕ) → map (λ x. h (view.of x)) p.items ≡ map h xs))
