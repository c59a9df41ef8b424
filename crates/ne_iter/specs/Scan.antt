-- `scan`: its parts, one call of its iterator, and what it yields.
use Rattle.std.specs.Prelude.{Bool, List, ◌≡◌, Option, None, Some, MatchOption}
use Rattle.std.specs.Fn.{Mut, CalledWithState, TakesWithState}
use Rattle.std.specs.Borrow.{MutBor}
use Rattle.std.specs.Iterator.{CallableAtEachTurn}
use Rattle.ne_iter.specs.declared.iter.scan.Scan.{Scan}
use Rattle.ne_iter.specs.Calls.{CallsWithState}
use Rattle.ne_iter.specs.declared.iter.scan.ScanIter.{ScanIter}

-- The source of a `Scan`.
abbrev pub scan_source : {I S F : Type 0} → Scan I S F → I
scan_source s = s.iter

-- The first state.
abbrev pub scan_init : {I S F : Type 0} → Scan I S F → S
scan_init s = s.init

-- The closure.
abbrev pub scan_callee : {I S F : Type 0} → Scan I S F → F
scan_callee s = s.f

module _ {U A : Type 0} (reads : Bool → U → List A → Type 0) where
  -- ys are the results of f, called with the source's items in order and a `&mut` to a state: init
  -- at the first call, and at each later one what the call before left.
  pub record IsScanned {S B F : Type 0}
      (calls : Mut F (MutBor S × (A × Unit {0})) (B × (MutBor S × Unit {0}))) (source : U)
      (init : S) (f : F) (whole : Bool) (ys : List B) : Type 0 where
    pub items : List A
    pub f_then : F
    pub state_then : S
    pub read : reads whole source items
    pub called : CallsWithState calls f init items ys f_then state_then

-- The iterator that a `ScanIter` takes items from, its state and its closure.
abbrev pub scanned_from : {I S F : Type 0} → ScanIter I S F → I
scanned_from s = s.iter

-- The state of the iterator.
abbrev pub state_of : {I S F : Type 0} → ScanIter I S F → S
state_of s = s.state

-- The closure of the iterator.
abbrev pub callee_of : {I S F : Type 0} → ScanIter I S F → F
callee_of s = s.f

module _ {I S A B F : Type 0} (steps : I → Option A → I → Type 0)
    (calls : Mut F (MutBor S × (A × Unit {0})) (B × (MutBor S × Unit {0}))) where
  -- One call of `next` returns the closure's result for the next item, or `None` at the end.
  abbrev pub ScansNext : ScanIter I S F → Option B → ScanIter I S F → Type 0
  ScansNext s r t = MatchOption r
      (steps (scanned_from s) None (scanned_from t)
      × (callee_of t ≡ callee_of s) × (state_of t ≡ state_of s))
      (λ y. (x : A) × steps (scanned_from s) (Some x) (scanned_from t)
      × CalledWithState calls (callee_of s) (state_of s) x y (callee_of t) (state_of t))

  -- The closure may be called with each item yielded, whatever state the calls before left.
  abbrev pub CallableInScan : I → F → S → Type 0
  CallableInScan it f s = CallableAtEachTurn {P = F × S} steps
      (λ p x q. (y : B) × CalledWithState calls p.0 p.1 x y q.0 q.1)
      (λ p x. TakesWithState calls p.0 p.1 x) it (f, s)
