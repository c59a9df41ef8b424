-- What `scan_of_all` collects, a chain of `flatten` and `scan`.
use Rattle.std.specs.Prelude.{Bool, List}
use Rattle.std.specs.Borrow.{MutBor}
use Rattle.std.specs.Fn.{Mut}
use Rattle.ne_vec.specs.Divisions.{concat}
use Rattle.ne_iter.specs.Calls.{CallsWithState}
use Rattle.ne_iter.specs.Flatten.{ReadsEach}

-- The first state is init. If c is complete, the source and the lists of its items have ended.
-- c is made of what f returns for the items of the lists of the source's items, one after another.
pub record IsScanOfAll {S U A D T F C : Type 0}
    (reads : Bool → S → List U → Type 0) (inner : Bool → U → List A → Type 0)
    (calls : Mut F (MutBor T × (A × Unit {0})) (D × (MutBor T × Unit {0})))
    (complete : C → Bool) (collected : List D → C → Type 0) (source : S) (init : T) (f : F) (c : C)
    : Type 0 where
  pub sources : List U
  pub lists : List (List A)
  pub results : List D
  pub f_then : F
  pub state_then : T
  pub read : reads (complete c) source sources
  pub read_each : ReadsEach inner (complete c) sources lists
  pub called : CallsWithState calls f init (concat lists) results f_then state_then
  pub made : collected results c
