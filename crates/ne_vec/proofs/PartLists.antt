-- The lists that the chunks and the runs of a slice yield, as sources.
use Rattle.std.proofs.Common.{arith, refl, sym, ap, subst, ◌∙◌, map-id}
use Rattle.std.specs.Prelude.{◌≡◌, ◌<◌, Bool, List, [], ◌∷◌, ◌++◌, length, map, slice_index_or}
use Rattle.std.specs.List.{AllByRecursion}
use Rattle.std.specs.Borrow.{Bor}
use Rattle.std.specs.Fn.{Shared}
use Rattle.std.specs.Iterator.{Yields, YieldsFirst}
use Rattle.ne_vec.specs.Chunks.{ChunksGive}
use Rattle.ne_vec.specs.Divisions.{IsRun, heads, runs_of}
use Rattle.ne_vec.specs.Lists.{IsPrefix, Lists}
use Rattle.ne_vec.specs.ListLaws.{first_prefix, lists_of, triggered}
use Rattle.ne_vec.specs.SliceRuns.{Cutting, ActsAsAtPair, BecomesCutter, CutsRun, GivesRunsOf}
use Rattle.ne_vec.specs.SliceRuns.{TakesHeads}
use Rattle.ne_vec.specs.DivisionLaws.{divide, divides, divide_only}
use Rattle.ne_vec.proofs.FirstRuns.{runs_before}

module _ {X : Type 0} (c parts : List (List X)) (same : c ≡ parts) where
  chunk_lists : Lists (λ (c it : List (List X)). (0 < length c) × (it ≡ c))
      (YieldsFirst (λ left. left)) (λ x. x) c parts
  chunk_lists = lists_of _ _ c parts (λ it made whole ys given.
      subst (λ l. IsPrefix whole l ys) (made.1 ∙ same) (first_prefix (λ left. left) it ys given))

  pub chunks_give : ChunksGive c parts
  chunks_give = (triggered c parts, chunk_lists)

is_divide : {A : Type 0} (place : (A → A → Bool) → List A → A → Bool) (same : A → A → Bool)
    (xs : List A) → divide (place same) xs ≡ runs_of place same xs
unfolding runs_of
is_divide place same [] = refl
is_divide place same (x ∷ xs) = refl

module _ {A F : Type 0} (calls : Shared F (Bor A × (Bor A × Unit {0})) Bool)
    (place : (A → A → Bool) → List A → A → Bool) where
  -- The runs yielded are a prefix of the runs, and those of the items left are the others.
  runs_came : (same : A → A → Bool) (s t : Cutting A F) (rs : List (List A))
      → ActsAsAtPair calls s.closure same → Yields (CutsRun calls place) s rs t
      → runs_of place same s.left ≡ rs ++ runs_of place same t.left
  runs_came same s t rs acts yields =
      let rest = divide (place same) t.left in
      let whole = runs_before calls place same s t rs rest acts yields
      (divides (place same) t.left) in
      sym (is_divide place same s.left) ∙ sym (divide_only (place same) s.left (rs ++ rest) whole)
      ∙ ap (λ l. rs ++ l) (is_divide place same t.left)

  pub run_lists : (s : Cutting A F) (same : A → A → Bool) → ActsAsAtPair calls s.closure same
      → Lists BecomesCutter (CutsRun calls place) (λ x. x) s (runs_of place same s.left)
  unfolding runs_of
  run_lists s same acts = lists_of _ _ s (runs_of place same s.left) (λ it made whole ys given.
      let t = given.0 in
      let yields = subst (λ q. Yields (CutsRun calls place) q ys t) made.2 given.1 in (
        runs_of place same t.left,
        runs_came same s t ys acts yields,
        λ w. ap (runs_of place same) (given.2 w).1.1.0,
      ))

  pub runs_give : (f : F) (s : Cutting A F) (xs : List A) → s.closure ≡ f → s.left ≡ xs
      → GivesRunsOf calls place f s xs
  runs_give f s xs same_closure same_items same ys is_xs acts = (
    refl,
    (
      triggered s (runs_of place same ys),
      subst (λ l. Lists BecomesCutter (CutsRun calls place) (λ x. x) s (runs_of place same l))
          (same_items ∙ sym is_xs)
          (run_lists s same (subst (λ g. ActsAsAtPair calls g same) (sym same_closure) acts)),
    ),
  )

-- The first items of lists that are not empty, each through a function.
heads_at : {A W : Type 0} (goes_on : List A → A → Bool) (any : A) (key : A → W) (rs : List (List A))
    → AllByRecursion (IsRun goes_on) rs
    → map key (heads rs) ≡ map (λ run. key (slice_index_or run 0 any)) rs
heads_at goes_on any key [] runs = refl
heads_at goes_on any key ([] ∷ rs) runs = absurd (runs.0.some refl)
heads_at goes_on any key ((x ∷ r) ∷ rs) runs =
    ap (λ l. key x ∷ l) (heads_at goes_on any key rs runs.1)

pub takes_heads : {A : Type 0} (place : (A → A → Bool) → List A → A → Bool) (xs : List A)
    → 0 < length xs → TakesHeads place
takes_heads place [] some = absurd (omega (arith, some))
takes_heads {A} place (x ∷ xs) some = (
  x,
  λ same ys.
      let runs : AllByRecursion (IsRun (place same)) (runs_of place same ys) =
      subst (AllByRecursion (IsRun (place same))) (is_divide place same ys)
      (divides (place same) ys).runs in (
        (
          refl,
          sym (map-id (heads (runs_of place same ys)))
              ∙ heads_at (place same) x (λ y. y) (runs_of place same ys) runs,
        ),
        λ key. (refl, heads_at (place same) x key (runs_of place same ys) runs),
      ),
)
