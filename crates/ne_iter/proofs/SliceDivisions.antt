-- The runs that the iterators over the runs of a slice yield.
use Rattle.std.proofs.Common.{◌≡◌, Bool, true, List, [], ◌++◌, subst}
use Rattle.std.specs.Borrow.{Bor}
use Rattle.std.specs.Fn.{Shared}
use Rattle.std.specs.Iterator.{Yields}
use Rattle.ne_vec.specs.Divisions.{IsDivision}
use Rattle.ne_vec.specs.SliceRuns.{Cutting, ActsAsAtPair, BecomesCutter, CutsRun}
use Rattle.ne_iter.specs.Sources.{ReadsList, Reads}
use Rattle.ne_iter.proofs.Groupings.{division_of_none}

module _ {A F : Type 0} (calls : Shared F (Bor A × (Bor A × Unit {0})) Bool)
    (place : (A → A → Bool) → List A → A → Bool)
    (exists : (goes_on : List A → A → Bool) (xs : List A)
    → (rs : List (List A)) × IsDivision goes_on xs rs)
    (unique : (goes_on : List A → A → Bool) (xs : List A) (rs others : List (List A))
    → IsDivision goes_on xs rs → IsDivision goes_on xs others → rs ≡ others)
    (taken : (place : (A → A → Bool) → List A → A → Bool) (same : A → A → Bool)
    (s t : Cutting A F) (rs all : List (List A))
    → ActsAsAtPair calls s.closure same → Yields (CutsRun calls place) s rs t
    → IsDivision (place same) t.left all → IsDivision (place same) s.left (rs ++ all)) where
  abbrev reads_runs : Bool → Cutting A F → List (List A) → Type 0
  reads_runs = Reads BecomesCutter (CutsRun calls place)

  pub gives_division : (s : Cutting A F) (same : A → A → Bool) → ActsAsAtPair calls s.closure same
      → (rs : List (List A)) × IsDivision (place same) s.left rs × ReadsList reads_runs s rs
  gives_division s same acts =
      let whole = exists (place same) s.left in
      (whole.0, whole.1, gives whole.0 whole.1)
    where
      gives : (rs : List (List A)) → IsDivision (place same) s.left rs → ReadsList reads_runs s rs
      gives rs divides whole ys reads =
          let t = reads.given.0 in
          let from_s = λ (q : Cutting A F). Yields (CutsRun calls place) q ys t in
          let yields = subst from_s reads.made.2 reads.given.1 in
          let rest = exists (place same) t.left in
          let joins = taken place same s t ys rest.0 acts yields rest.1 in
          let ended = λ (w : whole ≡ true). subst (λ l. IsDivision (place same) l rest.0)
          (reads.given.2 w).1.1.0 rest.1 in (
            rest.0,
            unique (place same) s.left rs (ys ++ rest.0) divides joins,
            λ w. unique (place same) [] rest.0 [] (ended w) (division_of_none (place same)),
          )
