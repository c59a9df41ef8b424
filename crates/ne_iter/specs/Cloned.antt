-- `cloned`: its part, one call of its iterator, and what it yields.
use Rattle.std.specs.Prelude.{◌≡◌, Option, None, Result, MatchOption, MatchResult, IsSomeAnd, Bool}
use Rattle.std.specs.Prelude.{List, Some}
use Rattle.std.specs.Borrow.{Bor}
use Rattle.std.specs.List.{AllZip}
use Rattle.ne_iter.specs.declared.iter.cloned.Cloned.{Cloned}
use Rattle.ne_iter.specs.declared.iter.cloned.ClonedIter.{ClonedIter}

-- The source of the references.
abbrev pub cloned_source : {I : Type 0} → Cloned I → I
cloned_source s = s.iter

-- The iterator of references in a `ClonedIter`.
abbrev pub cloned_iterator : {I : Type 0} → ClonedIter I → I
cloned_iterator s = s.iter

-- r is a result of cloning x: a clone of x, or an error unless clones of x cannot fail.
abbrev pub TriesClone : {T E : Type 0} → (T → T → Type 0) → (T → Type 0) → T → Result T E → Type 0
TriesClone clones infallible x r = MatchResult r (clones x) (λ _. infallible x → ⊥)

-- One call returns `None` if s is at its end, or the result of cloning the next referenced item.
abbrev pub ClonesNext : {S T R : Type 0} → (S → Option (Bor T) → S → Type 0) → (T → R → Type 0) → S
    → Option R → S → Type 0
ClonesNext {T = T} steps tries s r t = (o : Option (Bor T)) × steps s o t
    × MatchOption o (r ≡ None) (λ x. IsSomeAnd r (tries x.now))

-- ys are the results of cloning the items that the source's references point to.
abbrev pub IsCloned : {U T R : Type 0} → (Bool → U → List (Bor T) → Type 0) → (T → R → Type 0) → U
    → Bool → List R → Type 0
IsCloned {T = T} reads tries source whole ys = (xs : List (Bor T)) × reads whole source xs
    × AllZip (λ x r. tries x.now r) xs ys

-- If a call yields no clone, the iterator of references has ended.
module _ {S T : Type 0} (steps : S → Option (Bor T) → S → Type 0) where
  pub none_cloned : (R : Type 0) (tries : T → R → Type 0) (s t : S) (o : Option (Bor T))
      → steps s o t
      → MatchOption o (◌≡◌ {A = Option R} None None) (λ x. IsSomeAnd {T = R} None (tries x.now))
      → steps s None t
  none_cloned R tries s t None h e = h
  none_cloned R tries s t (Some x) h e = absurd e
