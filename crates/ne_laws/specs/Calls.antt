-- A list of calls, made one after another on a state of any type: the call c on the state s has the
-- reply r and leaves the state t if `replies s c r t` holds.
use Rattle.std.specs.Prelude.{◌≡◌, List, [], ◌∷◌, ◌++◌}

module _ {S C R : Type 0} (is_valid : S → Type 0) (replies : S → C → R → S → Type 0) where
  -- The calls on s have these replies, in order, and leave t; s and each state after it are valid.
  abbrev pub RunsTo : S → List C → List R → S → Type 0
  RunsTo s [] rs t = is_valid s × (rs ≡ []) × (t ≡ s)
  RunsTo s (c ∷ cs) rs t = is_valid s × ((r : R) × (rest : List R) × (mid : S)
      × (rs ≡ r ∷ rest) × replies s c r mid × RunsTo mid cs rest t)

  -- A prefix of the calls cs was made on s, and no others, and leaves t.
  abbrev pub RunsPrefix : S → List C → S → Type 0
  RunsPrefix s cs t = (done : List C) × (later : List C) × (rs : List R) × (cs ≡ done ++ later)
      × RunsTo s done rs t
