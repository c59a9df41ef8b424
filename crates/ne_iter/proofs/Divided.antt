-- Facts about groupings for whole lists: the division of the items taken by their keys.
use Rattle.std.proofs.Common.{◌≡◌, ◌≢◌, Bool, List, [], ◌∷◌, ◌++◌, map, Option, refl, sym, ap}
use Rattle.std.proofs.Common.{subst, ◌∙◌}
use Rattle.std.proofs.lemmas.List.{map-append, append-nil}
use Rattle.std.specs.Borrow.{Bor}
use Rattle.std.specs.Fn.{Mut}
use Rattle.std.specs.List.{AllByRecursion}
use Rattle.ne_vec.specs.DivisionLaws.{division_only, longer_keeps}
use Rattle.ne_vec.specs.Divisions.{concat, IsRun, IsDivision, by_first}
use Rattle.ne_iter.specs.GroupBy.{by_key}
use Rattle.ne_iter.specs.Keys.{items_of, same_key, DividesByKey}
use Rattle.ne_iter.specs.GroupingRuns.{IsOver, StandsAt, HasRead}
use Rattle.ne_iter.specs.GroupingLaws.{nil_mapped}
use Rattle.ne_iter.specs.declared.iter.divided.State.{State}
use Rattle.ne_iter.specs.declared.iter.divided.State.TheVariants.{Unread, Held, Ended}
use Rattle.ne_iter.specs.Grouping.{Grouping}

pub joined_mapped : {A B : Type 0} (f : A → B) (rs : List (List A))
    → concat (map (map f) rs) ≡ map f (concat rs)
joined_mapped f [] = refl
joined_mapped f (r ∷ rs) = ap (λ l. map f r ++ l) (joined_mapped f rs)
    ∙ sym (map-append f r (concat rs))

pub runs_join : {A K : Type 0} (eq : K → K → Bool) (ps : List (A × K)) (rs : List (List A))
    → DividesByKey eq ps rs → concat rs ≡ items_of ps
runs_join eq ps rs d = ap concat d.2 ∙ (joined_mapped (λ p. p.0) d.0 ∙ ap items_of d.1.whole)

pub all_some : {A K : Type 0} (P : List (A × K) → Type 0) → ((r : List (A × K)) → P r → r ≢ [])
    → (runs : List (List (A × K))) → AllByRecursion P runs
    → AllByRecursion (λ r. r ≢ []) (map items_of runs)
all_some P some [] all = tt
all_some P some (r ∷ runs) all = (
  (λ none. some r all.0 (nil_mapped (λ p. p.0) r (sym none))),
  all_some P some runs all.1,
)

pub no_run_is_empty : {A K : Type 0} (eq : K → K → Bool) (ps : List (A × K)) (rs : List (List A))
    → DividesByKey eq ps rs → AllByRecursion (λ r. r ≢ []) rs
no_run_is_empty eq ps rs d = subst (AllByRecursion (λ r. r ≢ [])) (sym d.2)
    (all_some (IsRun (by_first (same_key eq))) (λ r run. run.some) d.0 d.1.runs)

module _ {S K A F : Type 0} (steps : S → Option A → S → Type 0) (calls : Mut F (Bor A × Unit {0}) K)
    (eq : K → K → Bool) (s : S) (f : F) where
  -- Whatever items follow those taken, the runs returned are the first runs.
  are_first : (a : State K A) (t : S) (drawn : List (A × K)) (runs : List (List (A × K)))
      (more : List (A × K)) (all : List (List (A × K)))
      → StandsAt steps (by_key calls eq) f a s drawn t runs
      → (a ≡ Ended → more ≡ []) → IsDivision (by_first (same_key eq)) (drawn ++ more) all
      → (rest : List (List (A × K))) × (all ≡ runs ++ rest)
  are_first Unread t drawn runs more all stands none d = (all, ap (λ l. l ++ all) (sym stands.1))
  are_first (Held k x) t drawn runs more all stands none d = longer_keeps (by_first (same_key eq))
      drawn more runs all ((x, k) ∷ []) (stands.2.divides (same_key eq) refl) d
  are_first Ended t drawn runs more all stands none d =
      let same = subst (λ l. IsDivision (by_first (same_key eq)) l all) (append-nil drawn)
      (subst (λ l. IsDivision (by_first (same_key eq)) (drawn ++ l) all) (none refl) d) in (
        [],
        division_only (by_first (same_key eq)) drawn all runs same
            (stands.1.divides (same_key eq) refl) ∙ sym (append-nil runs),
      )

  pub first_runs : (rs : List (List A)) (g : Grouping S K A F)
      (read : HasRead steps (by_key calls eq) s f rs g) (more : List (A × K))
      (all : List (List A)) → (IsOver g → more ≡ [])
      → DividesByKey eq (read.drawn ++ more) all → (rest : List (List A)) × (all ≡ rs ++ rest)
  first_runs rs g read more all none d =
      let m = are_first g.state g.source read.drawn read.runs more d.0 read.stands none d.1 in (
        map items_of m.0,
        d.2 ∙ (ap (map items_of) m.1
            ∙ (map-append items_of read.runs m.0
            ∙ ap (λ l. l ++ map items_of m.0) (sym read.returned))),
      )
