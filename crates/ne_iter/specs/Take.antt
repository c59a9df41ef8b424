-- `take`: its parts, and what it yields.
use Rattle.std.specs.Prelude.{ℕ, ◌≤◌, Bool, ◌&&◌, ltb, List, length, ◌<◌, Option, IsTrue}
use Rattle.std.specs.Int.NonZero.{non_zero_usize_get}
use Rattle.std.specs.Iterator.Adapters.{take_steps}
use Rattle.std.specs.Iterator.Runs.{EachRunFrom, SomeRun, HasSameItems}
use Rattle.std.specs.declared.iter.Take.{Take as StdTake}
use Rattle.ne_iter.specs.declared.iter.take.Take.{Take}

-- The source of a `Take`.
abbrev pub take_source : {I : Type 0} → Take I → I
take_source s = s.iter

-- How many items are taken at most.
abbrev pub take_count : {I : Type 0} → Take I → ℕ
take_count s = non_zero_usize_get s.n

-- xs are the first items of the source, at most n; if fewer and `whole` is true, all of them.
abbrev pub IsTaken : {U A : Type 0} → (Bool → U → List A → Type 0) → ℕ → U → Bool → List A → Type 0
IsTaken reads n source whole xs = reads (whole && ltb (length xs) n) source xs × (length xs ≤ n)

-- Each run of the adapter `it`, of at most n items, has a run of `source` with the same items.
abbrev pub TakesRuns : {S A : Type 0} → (S → Option A → S → Type 0) → ℕ → S → StdTake S → Type 0
TakesRuns steps n source it = EachRunFrom (take_steps steps) it (λ p. (p.len ≤ n)
    × SomeRun steps source (λ q. HasSameItems p q
    × (IsTrue p.whole → p.len < n → IsTrue q.whole)))
