-- The items that a grouping has taken and the runs that it has returned, at any moment. A grouping
-- is the iterator of `group_by`, `runs_by` or `try_group_by`.
use Rattle.std.specs.Prelude.{◌≡◌, ◌≢◌, ℕ, ◌+◌, Bool, true, List, [], ◌∷◌, ◌++◌, map, Option, Some}
use Rattle.std.specs.Prelude.{None, Result, Ok, Err, MatchOption, OnErr, IfOk}
use Rattle.std.specs.Bool.{OnFalse}
use Rattle.std.specs.List.{AllByRecursion, FoldsTo}
use Rattle.std.specs.Iterator.{Yields, YieldsThen, Count, IsFinite, at_most, size}
use Rattle.std.specs.Iterator.Runs.{EachRunFrom, SomeRun}
use Rattle.std.specs.declared.alloc.AllocError.{AllocError}
use Rattle.ne_vec.specs.Divisions.{IsDivision, by_first, concat}
use Rattle.ne_vec.specs.Lists.{Naming, EachList, View}
use Rattle.ne_iter.specs.Keys.{items_of}
use Rattle.ne_iter.specs.declared.iter.divided.State.{State}
use Rattle.ne_iter.specs.declared.iter.divided.State.TheVariants.{Unread, Held, Ended}
use Rattle.ne_iter.specs.declared.iter.divided.Divided.{Divided}
use Rattle.ne_iter.specs.Grouping.{Grouping}

-- The source whose items are divided, and the closure that divides them.
abbrev pub divided_source : {I F C : Type 0} → Divided I F C → I
divided_source s = s.iter

abbrev pub divided_callee : {I F C : Type 0} → Divided I F C → F
divided_callee s = s.f

-- How a closure divides items into runs: the keys that it may give, and what it says of two items.
pub record RunTest (F A K : Type 0) : Type 1 where
  -- f, asked for the key of x, may give k, and is then g.
  pub keys : F → A → K → F → Type 0
  -- What `test` says of two items with their keys is what f says.
  pub tests : F → (A × K → A × K → Bool) → Type 0

module _ {A K F : Type 0} (how : RunTest F A K) where
  -- f, asked for the key of each item in order, may give those of ps, and is then g.
  abbrev pub GivesKeys : F → List (A × K) → F → Type 0
  GivesKeys f ps g = FoldsTo (λ p x q. how.keys p x.0 x.1 q) f ps g

  -- The runs, none of them empty, are ps, one after another. They are its division by each test
  -- that says what f says, where an item is compared with the first one of its run.
  pub record Divides (f : F) (ps : List (A × K)) (runs : List (List (A × K))) : Type 0 where
    pub whole : concat runs ≡ ps
    pub some : AllByRecursion (λ r. r ≢ []) runs
    pub divides : (test : A × K → A × K → Bool) → how.tests f test
        → IsDivision (by_first test) ps runs

-- The grouping g has read nothing.
abbrev pub IsUnread : {S K A F : Type 0} → Grouping S K A F → Type 0
IsUnread g = g.state ≡ Unread

-- The grouping g returns `None` from now on.
abbrev pub IsOver : {S K A F : Type 0} → Grouping S K A F → Type 0
IsOver g = g.state ≡ Ended

module _ {S K A F : Type 0} (steps : S → Option A → S → Type 0) (how : RunTest F A K) where
  -- The items taken, each with its key, took the source from s to t, and are divided into the runs
  -- and, if an item is held, one of only this item. If nothing was taken, there are no runs.
  abbrev pub StandsAt : F → State K A → S → List (A × K) → S → List (List (A × K)) → Type 0
  StandsAt f Unread s drawn t runs = (drawn ≡ []) × (runs ≡ []) × (s ≡ t)
  StandsAt f (Held k x) s drawn t runs = (runs ≢ []) × Yields steps s (items_of drawn) t
      × Divides how f drawn (runs ++ ((x, k) ∷ []) ∷ [])
  StandsAt f Ended s drawn t runs = YieldsThen steps s (items_of drawn) None t
      × Divides how f drawn runs

  -- A grouping that began with the source s and the closure f returned the runs rs, and is now g.
  -- The closure was asked for the key of each item taken, once and in order.
  pub record HasRead (s : S) (f : F) (rs : List (List A)) (g : Grouping S K A F) : Type 0 where
    pub drawn : List (A × K)
    pub runs : List (List (A × K))
    pub returned : rs ≡ map items_of runs
    pub called : GivesKeys how f drawn g.closure
    pub stands : StandsAt f g.state s drawn g.source runs

  -- One call of `next` returns r, and takes the grouping from g to h.
  pub record ReturnsNext (g : Grouping S K A F) (r : Option (Result (List A) AllocError))
      (h : Grouping S K A F) : Type 0 where
    -- A grouping that is over returns `None` and stays unchanged.
    pub over : IsOver g → (r ≡ None) × (h ≡ g)
    -- The grouping is over after `None` and after an `Err`.
    pub stops : MatchOption r (IsOver h) (λ x. OnErr x (IsOver h))
    -- A run follows the runs that were returned before, and `None` adds no run.
    pub reads : (s : S) (f : F) (rs : List (List A)) → HasRead s f rs g
        → MatchOption r (HasRead s f rs h) (λ x. IfOk x (λ run. HasRead s f (rs ++ run ∷ []) h))

  -- A grouping returned the runs rs, and then no result, or `None`, or an `Err`, before which it
  -- was k, and is now h. After `None` and after an `Err`, each result is `None`.
  abbrev pub ReturnsThen : S → F → List (List A) → List (Option (Result (List A) AllocError))
      → Grouping S K A F → Type 0
  ReturnsThen s f rs [] h = HasRead s f rs h
  ReturnsThen s f rs (None ∷ more) h = HasRead s f rs h × IsOver h
      × AllByRecursion (λ a. a ≡ None) more
  ReturnsThen s f rs (Some (Ok run) ∷ more) h = ⊥
  ReturnsThen s f rs (Some (Err e) ∷ more) h = ((k : Grouping S K A F) × HasRead s f rs k)
      × IsOver h × AllByRecursion (λ a. a ≡ None) more

  -- A grouping that had returned the runs `done` returned `results` next, and is now h.
  pub record ReturnsOn (s : S) (f : F) (done : List (List A))
      (results : List (Option (Result (List A) AllocError))) (h : Grouping S K A F) : Type 0 where
    pub runs : List (List A)
    -- The results after the runs.
    pub later : List (Option (Result (List A) AllocError))
    pub are_all : results ≡ map (λ run. Some (Ok run)) runs ++ later
    pub ended : ReturnsThen s f (done ++ runs) later h

-- The item that is held, if there is one.
abbrev pub items_held : {K A : Type 0} → State K A → List A
items_held Unread = []
items_held (Held k x) = x ∷ []
items_held Ended = []

-- The grouping g can be read: unless it is over, its source can, and ends, and its closure can be
-- called with the items that are held or come.
abbrev pub CanRead : {S K A F : Type 0} → (S → Type 0) → (S → Count)
    → (List A → S → F → Type 0) → Grouping S K A F → Type 0
CanRead can left callable g = (IsOver g → ⊥) → can g.source × IsFinite (left g.source)
    × callable (items_held g.state) g.source g.closure

-- The number of items ahead, those that the source has left and the one that is held: a grouping
-- has at most as many runs left.
abbrev pub items_ahead : {K A : Type 0} → State K A → ℕ → ℕ
items_ahead Unread left = left
items_ahead (Held k x) left = left + 1
items_ahead Ended left = 0

-- A bound on how many runs are left: one for each item that is left, and one for an item held.
abbrev pub runs_left : {S K A F : Type 0} → (S → Count) → Grouping S K A F → Count
runs_left left g = at_most (items_ahead g.state (size (left g.source)))

-- If a grouping g that has read nothing yields runs to its end, each in `Ok`, its source ends too,
-- and P holds of the items and the runs.
abbrev pub YieldsRuns : {S K A F : Type 0} → (S → Option A → S → Type 0)
    → (Grouping S K A F → Option (Result (List A) AllocError) → Grouping S K A F → Type 0)
    → (List A → List (List A) → Type 0) → Grouping S K A F → Type 0
YieldsRuns {A = A} steps next P g = EachRunFrom next g (λ p.
    (rs : List (List A)) → p.items ≡ map Ok rs → p.whole ≡ true
    → Naming (map {B = Result (List A) AllocError} Ok rs)
    (λ _. SomeRun steps g.source (λ q. (q.whole ≡ true) × P q.items rs)))

-- The runs of the items themselves are said by `YieldsRuns`.
-- P holds of the source's list through `view`, and of the runs that come through `view`.
abbrev pub YieldsRunsThrough : {U A V G E : Type 0} (view : View A)
    → ((view : View A) → U → List view.Target → Type 0) → U → (V → G → Type 0)
    → (G → Option (Result (List A) E) → G → Type 0)
    → (List view.Target → List (List view.Target) → Type 0) → V → Type 0
YieldsRunsThrough {A = A} {G = G} {E = E} view lists u made next P v =
    OnFalse view.is_itself (EachList (lists view) u (λ xs. (it : G) → made v it
    → EachRunFrom next it (λ p. (rs : List (List A)) → p.items ≡ map Ok rs → p.whole ≡ true
    → Naming (map {B = Result (List A) E} Ok rs) (λ _. P xs (map (λ r. map view.of r) rs)))))
