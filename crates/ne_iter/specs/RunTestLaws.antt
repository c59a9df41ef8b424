-- Proofs about how closures divide items into runs, which the implementations use.
use Rattle.std.proofs.Common.{◌≡◌, Bool, List, [], ◌∷◌, ◌++◌, map, Option, Some, Result, Ok}
use Rattle.std.proofs.Common.{refl, sym, ap, subst, ◌∙◌, append_assoc}
use Rattle.std.proofs.lemmas.List.Elements.{Contains-append_right}
use Rattle.std.specs.Borrow.{Bor}
use Rattle.std.specs.Fn.{CalledAt, Mut, Shared, FnReturnsAt}
use Rattle.std.specs.Iterator.{ActsAsAt, CallableOnAllAt}
use Rattle.std.specs.List.{AllByRecursion, Contains}
use Rattle.std.specs.declared.alloc.AllocError.{AllocError}
use Rattle.ne_vec.specs.Divisions.{IsDivision, by_first, runs_from, runs_of}
use Rattle.ne_vec.specs.DivisionLaws.{divide, divide_only, divides, division_mapped}
use Rattle.ne_iter.specs.Calls.{CallsEachAt}
use Rattle.ne_iter.specs.GroupBy.{by_key}
use Rattle.ne_iter.specs.GroupingRuns.{Divides, GivesKeys}
use Rattle.ne_iter.specs.Keys.{items_of, same_key, IsDividedBy}
use Rattle.ne_iter.specs.RunsBy.{CallableAfter, Cuts, by_test}
use Rattle.ne_iter.specs.TryGroupBy.{by_keys, by_tried_key}

pub all_left : {A : Type 0} (P : A → Type 0) (xs ys : List A) → AllByRecursion P (xs ++ ys)
    → AllByRecursion P xs
all_left P [] ys all = tt
all_left P (x ∷ xs) ys all = (all.0, all_left P xs ys all.1)

all_right : {A : Type 0} (P : A → Type 0) (xs ys : List A) → AllByRecursion P (xs ++ ys)
    → AllByRecursion P ys
all_right P [] ys all = all
all_right P (x ∷ xs) ys all = all_right P xs ys all.1

-- Tests that agree on the items of a list divide it alike.
module _ {A : Type 0} (P : A → Type 0) (one other : A → A → Bool)
    (alike : (x y : A) → P x → P y → one x y ≡ other x y) where
  at_first : (prefix : List A) (y : A) → AllByRecursion P prefix → P y
      → by_first one prefix y ≡ by_first other prefix y
  at_first [] y all p = refl
  at_first (x ∷ prefix) y all p = alike x y all.0 p

  cut_alike : (r xs : List A) → AllByRecursion P (r ++ xs)
      → runs_from (by_first one) r xs ≡ runs_from (by_first other) r xs
  cut_alike r [] all = refl
  cut_alike r (x ∷ xs) all =
      let there = all_right P r (x ∷ xs) all in
      let goes_on = at_first r x (all_left P r (x ∷ xs) all) there.0 in
      let longer = cut_alike (r ++ x ∷ []) xs
      (subst (AllByRecursion P) (sym (append_assoc r (x ∷ []) xs)) all) in
      rw (goes_on, longer, cut_alike (x ∷ []) xs there) refl

  divide_alike : (xs : List A) → AllByRecursion P xs
      → divide (by_first one) xs ≡ divide (by_first other) xs
  divide_alike [] all = refl
  divide_alike (x ∷ xs) all = cut_alike (x ∷ []) xs all

  pub division_alike : (xs : List A) (rs : List (List A)) → AllByRecursion P xs
      → IsDivision (by_first one) xs rs → IsDivision (by_first other) xs rs
  division_alike xs rs all d = subst (IsDivision (by_first other) xs)
      (sym (divide_only (by_first one) xs rs d ∙ divide_alike xs all)) (divides (by_first other) xs)

-- Whether an item continues a run does not depend on the view.
alike_through : {A B : Type 0} (test : B → B → Bool) (view : A → B) (r : List A) (x : A)
    → by_first test (map view r) (view x) ≡ by_first (λ a b. test (view a) (view b)) r x
alike_through test view [] x = refl
alike_through test view (y ∷ r) x = refl

pub divided_through : {A B : Type 0} (test : B → B → Bool) (view : A → B) (xs : List A)
    (rs : List (List A)) → IsDivision (by_first (λ a b. test (view a) (view b))) xs rs
    → IsDivision (by_first test) (map view xs) (map (map view) rs)
divided_through test view xs rs d = division_mapped view
    (by_first (λ a b. test (view a) (view b))) (by_first test) (alike_through test view) xs rs d

-- A division is what `runs_of` computes.
pub are_runs : {A : Type 0} (place : (A → A → Bool) → List A → A → Bool) (same : A → A → Bool)
    (xs : List A) (rs : List (List A)) → IsDivision (place same) xs rs → rs ≡ runs_of place same xs
unfolding runs_of
are_runs place same [] rs d = divide_only (place same) [] rs d
are_runs place same (x ∷ xs) rs d = divide_only (place same) (x ∷ xs) rs d

pub division_of_runs : {A : Type 0} (place : (A → A → Bool) → List A → A → Bool)
    (same : A → A → Bool) (xs : List A) (rs : List (List A)) → rs ≡ runs_of place same xs
    → IsDivision (place same) xs rs
unfolding runs_of
division_of_runs place same [] rs e =
    subst (IsDivision (place same) []) (sym e) (divides (place same) [])
division_of_runs place same (x ∷ xs) rs e =
    subst (IsDivision (place same) (x ∷ xs)) (sym e) (divides (place same) (x ∷ xs))

-- ---- `group_by`

pub callable_on : {S A K F : Type 0} (steps : S → Option A → S → Type 0)
    (calls : Mut F (Bor A × Unit {0}) K) (s t : S) (x : A) (k : K) (f g : F)
    → CallableOnAllAt steps calls s f → steps s (Some x) t → CalledAt calls f x k g
    → CallableOnAllAt steps calls t g
callable_on steps calls s t x k f g can step key = record {
  at = λ xs u h y w came called next.
      can.at (x ∷ xs) u h y w (t, step, came) (g, (k, key), called) next;
}

module _ {A K F : Type 0} (calls : Mut F (Bor A × Unit {0}) K) (eq : K → K → Bool) where
  keys_at : (h : A → K) (f : F) (ps : List (A × K)) (g : F) → ActsAsAt calls f h
      → CallsEachAt calls f ps g → AllByRecursion (λ p. p.1 ≡ h p.0) ps
  keys_at h f [] g acts called = tt
  keys_at h f (p ∷ ps) g acts called =
      let one = acts p.0 p.1 called.0 called.1 in (
        one.1,
        keys_at h called.0 ps g (subst (λ q. ActsAsAt calls q h) (sym one.0) acts) called.2,
      )

  pub divided_by_function : (h : A → K) (ps : List (A × K)) (runs : List (List (A × K))) (f g : F)
      → ActsAsAt calls f h → CallsEachAt calls f ps g → IsDivision (by_first (same_key eq)) ps runs
      → IsDivision (by_first (λ x y. eq (h x) (h y))) (items_of ps) (map items_of runs)
  divided_by_function h ps runs f g acts called d =
      divided_through (λ x y. eq (h x) (h y)) (λ p. p.0) ps runs
      (division_alike (λ p. p.1 ≡ h p.0) (same_key eq) (λ p q. eq (h p.0) (h q.0))
      (λ p q k l. ap (λ j. eq j q.1) k ∙ ap (eq (h p.0)) l) ps runs
      (keys_at h f ps g acts called) d)

  pub runs_by_key : (f g : F) (ps : List (A × K)) (runs : List (List (A × K)))
      → GivesKeys (by_key calls eq) f ps g → Divides (by_key calls eq) f ps runs
      → (h : A → K) → ActsAsAt calls f h → IsDividedBy h eq (items_of ps) (map items_of runs)
  unfolding IsDividedBy
  runs_by_key f g ps runs called d h acts =
      divided_by_function h ps runs f g acts called (d.divides (same_key eq) refl)

-- ---- `runs_by`

module _ {A F : Type 0} (calls : Shared F (Bor A × (Bor A × Unit {0})) Bool) where
  pub cuts_by_test : (f : F) (ps : List (A × Unit {0})) (runs : List (List (A × Unit {0})))
      → Divides (by_test calls) f ps runs → Cuts calls f (items_of ps) (map items_of runs)
  cuts_by_test f ps runs d test acts = are_runs by_first test (items_of ps) (map items_of runs)
      (divided_through test (λ p. p.0) ps runs (d.divides (λ p q. test p.0 q.0) (test, acts, refl)))

  module _ {S : Type 0} (steps : S → Option A → S → Type 0) where
    pub callable_more : (back : List A) (s t : S) (x : A) (f : F)
        → CallableAfter calls steps back s f → steps s (Some x) t
        → CallableAfter calls steps (back ++ x ∷ []) t f
    callable_more back s t x f can step xs u a b more here there =
        let same = append_assoc back (x ∷ []) xs in
        can (x ∷ xs) u a b (t, step, more) (subst (λ l. Contains l a.now) same here)
        (subst (λ l. Contains l b.now) same there)

    pub callable_alone : (back : List A) (x : A) (t : S) (f : F)
        → CallableAfter calls steps (back ++ x ∷ []) t f → CallableAfter calls steps (x ∷ []) t f
    callable_alone back x t f can xs u a b more here there =
        let same = sym (append_assoc back (x ∷ []) xs) in
        can xs u a b more
        (subst (λ l. Contains l a.now) same (Contains-append_right back (x ∷ xs) a.now here))
        (subst (λ l. Contains l b.now) same (Contains-append_right back (x ∷ xs) b.now there))

-- ---- `try_group_by`

module _ {A K F : Type 0} (calls : Shared F (Bor A × Unit {0}) (Result K AllocError))
    (eq : K → K → Bool) where
  keys_returned : (f : F) (ps : List (A × K)) (g : F) → GivesKeys (by_tried_key calls eq) f ps g
      → AllByRecursion (λ p. FnReturnsAt calls f p.0 (Ok p.1)) ps
  keys_returned f [] g called = tt
  keys_returned f (p ∷ ps) g called = (
    called.1.0,
    keys_returned f ps g
        (subst (λ q. GivesKeys (by_tried_key calls eq) q ps g) called.1.1 called.2),
  )

  pub cuts_by_tried_key : (f g : F) (ps : List (A × K)) (runs : List (List (A × K)))
      → GivesKeys (by_tried_key calls eq) f ps g → Divides (by_tried_key calls eq) f ps runs
      → Cuts (by_keys calls eq) f (items_of ps) (map items_of runs)
  cuts_by_tried_key f g ps runs called d test acts =
      are_runs by_first test (items_of ps) (map items_of runs)
      (divided_through test (λ p. p.0) ps runs
      (division_alike (λ p. FnReturnsAt calls f p.0 (Ok p.1)) (same_key eq)
      (λ p q. test p.0 q.0) (λ p q k l. acts p.0 q.0 (eq p.1 q.1) (record {
        first = k.shown;
        second = l.shown;
        shows = (k.shows, l.shows);
        says = record { met = (p.1, q.1, k.says.met, l.says.met, refl) };
      })) ps runs (keys_returned f ps g called) (d.divides (same_key eq) refl)))
