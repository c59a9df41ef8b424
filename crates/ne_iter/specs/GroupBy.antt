-- `group_by`: its parts, and the runs that it yields.
use Rattle.std.specs.Prelude.{◌≡◌, ◌≢◌, Bool, true, false, List, [], ◌∷◌, ◌++◌, Option, None, Some}
use Rattle.std.specs.Prelude.{MatchOption, Result, Ok, Err, map, ◌⊎◌}
use Rattle.std.specs.Fn.{CalledAt, Mut}
use Rattle.std.specs.Borrow.{Bor}
use Rattle.std.specs.Iterator.{ActsAsAt}
use Rattle.ne_vec.specs.Lists.{View}
use Rattle.ne_iter.specs.Calls.{CallsEachAt}
use Rattle.ne_iter.specs.GroupingRuns.{RunTest}
use Rattle.ne_iter.specs.Keys.{items_of, same_key, DividesByKey, IsDividedBy}

-- The runs rs, followed by a run of only the item that is held, if there is one.
abbrev pub and_held : {A : Type 0} → List (List A) → Option A → List (List A)
and_held rs None = rs
and_held rs (Some x) = rs ++ (x ∷ []) ∷ []

-- A source yields runs, each in `Ok`, of which P holds. An `Err` may be yielded in place of a run,
-- and nothing after it; P holds of the runs before it.
abbrev pub GivesRuns : {V A E : Type 0} → (Bool → V → List (Result (List A) E) → Type 0)
    → (Bool → List (List A) → Type 0) → V → Type 0
GivesRuns {A = A} {E = E} yields P v
    = ((whole : Bool) (rs : List (List A)) → yields whole v (map Ok rs) → P whole rs)
    × ((whole : Bool) (xs : List (Result (List A) E)) → yields whole v xs
    → (rs : List (List A)) × ((xs ≡ map Ok rs)
    ⊎ ((e : E) × (xs ≡ map Ok rs ++ Err e ∷ []) × P false rs)))

module _ {A K F : Type 0} (calls : Mut F (Bor A × Unit {0}) K) (eq : K → K → Bool) where
  -- The closure gives the keys, and items with equal keys make a run.
  abbrev pub by_key : RunTest F A K
  by_key = record { keys = CalledAt calls; tests = λ f test. test ≡ same_key eq }

  -- If f acts as a function h of the items through `view`, the runs are those of xs by h.
  abbrev pub GroupsThrough : (view : View A) → F → List view.Target → List (List view.Target)
      → Type 0
  GroupsThrough view f xs rs = (h : view.Target → K) → ActsAsAt calls f (λ x. h (view.of x))
      → IsDividedBy h eq xs rs

module _ {U A K F : Type 0} (reads : Bool → U → List A → Type 0)
    (calls : Mut F (Bor A × Unit {0}) K) (eq : K → K → Bool) where
  -- The items taken from the source are divided by their keys into the runs rs and a held item. f
  -- was called for each in order, and returned its key. If `whole` is true, the source has ended.
  pub record HasRuns (whole : Bool) (source : U) (f : F) (rs : List (List A)) : Type 0 where
    pub drawn : List (A × K)
    pub closure : F
    pub held : Option A
    pub ended : Bool
    pub read : reads ended source (items_of drawn)
    pub called : CallsEachAt calls f drawn closure
    pub divided : DividesByKey eq drawn (and_held rs held)
    -- An item is held, after a run, unless the source has ended or nothing was taken.
    pub holds : MatchOption held ((ended ≡ true) ⊎ (drawn ≡ [])) (λ _. rs ≢ [])
    pub over : whole ≡ true → (ended ≡ true) × (held ≡ None)

  -- `group_by` yields the runs of the source's items by the keys that f returned, each in `Ok`. An
  -- `Err` may be yielded in place of a run, and nothing after it.
  abbrev pub GroupByGives : {V E : Type 0} → (Bool → V → List (Result (List A) E) → Type 0) → U → F
      → V → Type 0
  GroupByGives grouped source f result =
      GivesRuns grouped (λ whole rs. HasRuns whole source f rs) result
