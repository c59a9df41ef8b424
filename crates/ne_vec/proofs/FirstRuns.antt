-- The first run of a list, found item by item, and the division that such runs make.
use Rattle.std.proofs.Common.{◌≡◌, ◌≢◌, ℕ, zero, suc, ◌+◌, ◌-◌, ◌<◌, ◌≤◌, Bool, true, false, List}
use Rattle.std.proofs.Common.{[], ◌∷◌, ◌++◌, length, take, drop, refl, sym, ap, subst, ◌∙◌, arith}
use Rattle.std.proofs.lemmas.List.{drop_all, length-take-le, get_or-take}
use Rattle.std.proofs.lemmas.Option.{slice_get_read}
use Rattle.std.proofs.lemmas.List.Elements.{All-drop}
use Rattle.std.specs.Prelude.{All, Some, slice_get, slice_index_or}
use Rattle.std.specs.Borrow.{Bor}
use Rattle.std.specs.Fn.{Shared}
use Rattle.std.specs.Iterator.{Yields}
use Rattle.ne_vec.specs.Divisions.{Adjacent, IsRun, Breaks, IsDivision, by_previous}
use Rattle.ne_vec.specs.SliceRuns.{Cutting, ActsAsAtPair, CallableAtPairs, CutsRun, IsFirstRun}
use Rattle.ne_vec.specs.SliceRuns.{TakesPair}
use Rattle.ne_vec.specs.DivisionLaws.{run_one, run_more}

-- The item at place n is the last of the first n + 1 items.
take_one_more : {A : Type 0} (xs : List A) (n : ℕ) (x : A)
    → slice_get xs n ≡ Some x → take (suc n) xs ≡ take n xs ++ x ∷ []
take_one_more [] n x e = let e = e in cc
take_one_more (y ∷ xs) zero x e = let e = e in cc
take_one_more (y ∷ xs) (suc n) x e = ap (λ l. y ∷ l) (take_one_more xs n x e)

-- The item at place n is the first of those that remain.
drop_at : {A : Type 0} (xs : List A) (n : ℕ) (x : A)
    → slice_get xs n ≡ Some x → (rest : List A) × (drop n xs ≡ x ∷ rest)
drop_at [] n x e = let e = e in cc
drop_at (y ∷ xs) zero x e = (xs, let e = e in cc)
drop_at (y ∷ xs) (suc n) x e = drop_at xs n x e

module _ {A F : Type 0} (calls : Shared F (Bor A × (Bor A × Unit {0})) Bool) where
  -- A closure that may be called with any two items may be called with any two of those that remain
  pub callable_later : (f : F) (xs : List A) (n : ℕ)
      → CallableAtPairs calls f xs → CallableAtPairs calls f (drop n xs)
  callable_later f xs n callable =
      All-drop (λ x. All (TakesPair calls f x) (drop n xs)) n xs (λ k d inside.
      All-drop (TakesPair calls f (slice_index_or xs k d)) n xs (callable k d inside))

pub front_is_some : {A : Type 0} (xs : List A) (n : ℕ) → 0 < n → n ≤ length xs → take n xs ≢ []
front_is_some xs zero some within = absurd (omega (arith, some))
front_is_some [] (suc n) some within = absurd (omega (arith, within))
front_is_some (x ∷ xs) (suc n) some within = λ e. cc

module _ {A : Type 0} (goes_on : List A → A → Bool) where
  pub run_of_one : (xs : List A) → 0 < length xs → IsRun goes_on (take 1 xs)
  run_of_one [] some = absurd (omega (arith, some))
  run_of_one (x ∷ xs) some = run_one goes_on x

  -- If the item at place n continues the run of the items before it, the run is longer by one.
  pub longer_run : (xs : List A) (n : ℕ) (x : A) → slice_get xs n ≡ Some x
      → IsRun goes_on (take n xs) → goes_on (take n xs) x ≡ true → IsRun goes_on (take (n + 1) xs)
  longer_run xs n x e run on =
      let one_more : n + 1 ≡ suc n = omega arith in
      subst (λ k. IsRun goes_on (take k xs)) (sym one_more)
      (subst (IsRun goes_on) (sym (take_one_more xs n x e))
      (run_more goes_on (take n xs) x run on))

  -- If the item at place n does not continue the run, the run ends there.
  pub run_breaks : (xs : List A) (n : ℕ) (x : A) → slice_get xs n ≡ Some x
      → IsRun goes_on (take n xs) → goes_on (take n xs) x ≡ false → IsFirstRun goes_on xs n
  run_breaks xs n x e run off =
      let rest = drop_at xs n x e in
      (run, subst (Breaks goes_on (take n xs)) (sym rest.1) off)

  -- If there is no item at place n, the run is the whole list.
  pub run_is_all : (xs : List A) (n : ℕ)
      → length xs ≤ n → IsRun goes_on (take n xs) → IsFirstRun goes_on xs n
  run_is_all xs n e run = (run, subst (Breaks goes_on (take n xs)) (sym (drop_all n xs e)) tt)

-- The item at place k is in the first n items too.
pub prefix_read : {A : Type 0} (xs : List A) (n k : ℕ) (x : A) → n ≤ length xs → k < n
    → x ≡ slice_index_or xs k x → slice_get (take n xs) k ≡ Some x
prefix_read xs n k x within inside read =
    slice_get_read (take n xs) n k x (sym (length-take-le n xs within)) inside
    (read ∙ sym (get_or-take n xs k x inside))

pub by_previous-last : {A : Type 0} (same : A → A → Bool) (run : List A) (x next : A)
    → slice_get run (length run - 1) ≡ Some x → by_previous same run next ≡ same x next
by_previous-last same [] x next e = absurd cc
by_previous-last same (a ∷ []) x next e = let e = e in cc
by_previous-last same (a ∷ b ∷ r) x next e =
    let back : suc (suc (length r)) - 1 ≡ suc (suc (length r) - 1) = omega arith in
    by_previous-last same (b ∷ r) x next
    (subst (λ k. slice_get (a ∷ b ∷ r) k ≡ Some x) back e)

module _ {A : Type 0} (goes_on : List A → A → Bool) where
  breaks_before : (run rest : List A) (all : List (List A)) → Breaks goes_on run rest
      → IsDivision goes_on rest all → Adjacent (Breaks goes_on) (run ∷ all)
  breaks_before run rest [] breaks d = tt
  breaks_before run rest ([] ∷ all) breaks d = absurd (d.runs.0.some refl)
  breaks_before run rest ((x ∷ r) ∷ all) breaks d =
      (subst (Breaks goes_on run) (sym d.whole) breaks, d.breaks)

  -- A run, and the division of the items after it.
  run_before : (xs run rest : List A) (all : List (List A)) → xs ≡ run ++ rest
      → IsRun goes_on run → Breaks goes_on run rest
      → IsDivision goes_on rest all → IsDivision goes_on xs (run ∷ all)
  run_before xs run rest all e is breaks d = record {
    whole = ap (λ l. run ++ l) d.whole ∙ sym e;
    runs = (is, d.runs);
    breaks = breaks_before run rest all breaks d;
  }

-- The runs that were yielded, followed by the division of the items left.
pub runs_before : {A F : Type 0} (calls : Shared F (Bor A × (Bor A × Unit {0})) Bool)
    (place : (A → A → Bool) → List A → A → Bool) (same : A → A → Bool)
    (s t : Cutting A F) (rs all : List (List A))
    → ActsAsAtPair calls s.closure same → Yields (CutsRun calls place) s rs t
    → IsDivision (place same) t.left all → IsDivision (place same) s.left (rs ++ all)
runs_before calls place same s t [] all acts yields d =
    subst (λ q. IsDivision (place same) q.left all) (sym yields) d
runs_before calls place same s t (run ∷ rs) all acts yields d =
    let next = yields.0 in
    let step = yields.1 in
    let cut = step.1.2 same acts in
    let still = subst (λ f. ActsAsAtPair calls f same) (sym step.0) acts in
    run_before (place same) s.left run next.left (rs ++ all) step.1.0 cut.0 cut.1
    (runs_before calls place same next t rs all still yields.2 d)
