-- The item that is kept is one of those yielded. If a test ranks the items, the item kept is the
-- first least or the first greatest of them. One item beats another by a test.
use Rattle.std.proofs.Common.{ap, subst, sym, ◌∙◌}
use Rattle.std.specs.Prelude.{◌≡◌, Bool, true, false, cond, List, [], ◌∷◌, ◌++◌, Option, Some, map}
use Rattle.std.specs.Borrow.{Bor}
use Rattle.std.specs.Cmp.{Agrees, IsStrictWeakOrder}
use Rattle.std.specs.Fn.{FnReturnsAtPair, Shared}
use Rattle.std.specs.List.{All, best_of, Contains, FoldsTo}
use Rattle.std.specs.Ordering.{is_lt, is_some_and, partial_lt}
use Rattle.std.specs.declared.cmp.Ordering.{Ordering}
use Rattle.std.proofs.lemmas.Fn.{chained_keeps}
use Rattle.std.proofs.lemmas.List.Elements.{All-contains_itself, All-cons, All-head, All-tail}
use Rattle.std.proofs.lemmas.List.Elements.{Contains-append_left, Contains-push}
use Rattle.std.proofs.lemmas.List.MinMax.{IsFirstBest-from_best_of, IsStrictWeakOrder-flip}
use Rattle.std.proofs.lemmas.Option.{slice_get-get_or}
use Rattle.ne_vec.specs.Lists.{View}
use Rattle.ne_iter.specs.Consumers.{ReturnsOnlyWhere, KeepsBetter, less_by, IsFirstGreatest}
use Rattle.ne_iter.specs.Consumers.{IsFirstLeast}
use Rattle.ne_iter.proofs.Extremes.{contains_through, first_through}

module _ {V F A : Type 0} (view : A → V) (calls : Shared F (Bor V × (Bor V × Unit {0})) Bool)
    (f : F) where
  -- What holds for both items of a step holds for the one that is kept.
  kept_has : (P : A → Type 0) (kept x next : A) → KeepsBetter view calls f kept x next
      → P kept → P x → P next
  kept_has P kept x next (true, says, e) p q = subst P (sym e) q
  kept_has P kept x next (false, says, e) p q = subst P (sym e) p

  -- The item that is kept is one of those that were yielded.
  pub Contains-kept : (first : A) (xs : List A) (kept : A)
      → FoldsTo (KeepsBetter view calls f) first xs kept → Contains (first ∷ xs) kept
  Contains-kept first xs kept =
      chained_keeps (KeepsBetter view calls f) (λ ys m. Contains (first ∷ ys) m)
      (λ ys m x next has turn. kept_has (Contains (first ∷ (ys ++ x ∷ []))) m x next turn
      (Contains-append_left (first ∷ ys) (x ∷ []) m has) (Contains-push (first ∷ ys) x))
      xs first kept (Contains-push [] first)

  -- For two of the items zs, f returns whether the second beats the first.
  abbrev pub ReturnsAs : (A → A → Bool) → List A → Type 0
  ReturnsAs beats zs = (x y : A) (t : Bool) → Contains zs x → Contains zs y
      → FnReturnsAtPair calls f (view x) (view y) t → t ≡ beats y x

  -- So the best of the items zs is kept.
  best_of-kept : (beats : A → A → Bool) (zs : List A) → ReturnsAs beats zs
      → (first : A) (xs : List A) (kept : A) → All (Contains zs) (first ∷ xs)
      → FoldsTo (KeepsBetter view calls f) first xs kept → kept ≡ best_of beats first xs
  best_of-kept beats zs answers first [] kept all e = sym e
  best_of-kept beats zs answers first (x ∷ xs) kept all (next, turn, rest) =
      let one = Contains zs in
      let here = All-head one first (x ∷ xs) all in
      let others = All-tail one first (x ∷ xs) all in
      let there = All-head one x xs others in
      let both = kept_has one first x next turn here there in
      best_of-kept beats zs answers next xs kept
      (All-cons one next xs both (All-tail one x xs others)) rest
      ∙ ap (λ b. best_of beats b xs)
      (turn.2 ∙ ap (λ t. cond t x first) (answers first x turn.0 here there turn.1))

module _ {A : Type 0} (less : A → A → Bool) (order : IsStrictWeakOrder less) where
  IsFirstLeast-best_of : (first : A) (xs : List A) (best : A)
      → best ≡ best_of less first xs → IsFirstLeast less (first ∷ xs) best
  IsFirstLeast-best_of first xs best e =
      let p = IsFirstBest-from_best_of order first xs in
      (p.0, p.1, slice_get-get_or (first ∷ xs) p.0 first p.1.0 ∙ ap Some (p.2 ∙ sym e))

module _ {V F A : Type 0} (view : A → V) (calls : Shared F (Bor V × (Bor V × Unit {0})) Bool)
    (f : F) (less : A → A → Bool) (order : IsStrictWeakOrder less) where
  -- If f returns whether the next item is less, the first least item is kept.
  pub IsFirstLeast-kept : (first : A) (xs : List A) (kept : A)
      → ReturnsAs view calls f less (first ∷ xs)
      → FoldsTo (KeepsBetter view calls f) first xs kept → IsFirstLeast less (first ∷ xs) kept
  IsFirstLeast-kept first xs kept answers turns =
      IsFirstLeast-best_of less order first xs kept
      (best_of-kept view calls f less (first ∷ xs) answers first xs kept
      (All-contains_itself (first ∷ xs)) turns)

module _ {V F A : Type 0} (view : A → V) (calls : Shared F (Bor V × (Bor V × Unit {0})) Bool)
    (f : F) (less : A → A → Bool) (order : IsStrictWeakOrder less) where
  -- If f returns whether the next item is greater, the first greatest item is kept.
  pub IsFirstGreatest-kept : (first : A) (xs : List A) (kept : A)
      → ReturnsAs view calls f (λ x y. less y x) (first ∷ xs)
      → FoldsTo (KeepsBetter view calls f) first xs kept → IsFirstGreatest less (first ∷ xs) kept
  IsFirstGreatest-kept =
      IsFirstLeast-kept view calls f (λ x y. less y x) (IsStrictWeakOrder-flip less order)

-- What `<` returns, stated by `cmp`.
pub less_by-from_partial_lt : {A : Type 0} {C : A → A → Option Ordering} {R : A → A → Ordering}
    → Agrees C R → (x y : A) (t : Bool) → t ≡ partial_lt C x y → t ≡ less_by R x y
less_by-from_partial_lt a x y t e = e ∙ ap (is_some_and is_lt) (a x y)

module _ {A F H : Type 0} (calls : Shared F (Bor A × (Bor A × Unit {0})) Bool) (f : F)
    (through : Shared H (Bor A × (Bor A × Unit {0})) Ordering) (h : H) (meant : Ordering → Bool)
    (each : (v w : Bor A) (t : Bool) → calls.post f (v, (w, tt)) t
    → (r : Ordering) × through.post h (v, (w, tt)) r × (t ≡ meant r)) (first : A) (xs : List A)
    (kept : A) (turns : FoldsTo (KeepsBetter (λ y. y) calls f) first xs kept) (view : View A) where
  -- Each call of f is a call of h, and returns whether the result of h is the one meant.
  returns_as : (beats : view.Target → view.Target → Bool)
      → ReturnsOnlyWhere through h view (map view.of (first ∷ xs)) meant (λ x y. beats y x)
      → ReturnsAs (λ x. x) calls f (λ x y. beats (view.of x) (view.of y)) (first ∷ xs)
  returns_as beats answers x y t a b says =
      let behind = each says.first says.second t says.says.met in
      let at : FnReturnsAtPair through h x y behind.0 = record {
        first = says.first;
        second = says.second;
        shows = says.shows;
        says = record { met = behind.1 };
      } in
      let there = contains_through view.of (first ∷ xs) in
      behind.2 ∙ answers x y behind.0 (there x a) (there y b) at

  -- So the first best item is kept, if the results of h rank the items.
  pub picks_best : Contains (map view.of (first ∷ xs)) (view.of kept)
      × ((beats : view.Target → view.Target → Bool) → IsStrictWeakOrder beats
      → ReturnsOnlyWhere through h view (map view.of (first ∷ xs)) meant (λ x y. beats y x)
      → IsFirstLeast beats (map view.of (first ∷ xs)) (view.of kept))
  picks_best = (
    contains_through view.of (first ∷ xs) kept
        (Contains-kept (λ y. y) calls f first xs kept turns),
    λ beats order answers.
        let ranks : IsStrictWeakOrder (λ x y. beats (view.of x) (view.of y)) = record {
          one_way = λ x y. order.one_way (view.of x) (view.of y);
          chain = λ x y z. order.chain (view.of x) (view.of y) (view.of z);
        } in
        first_through view.of beats (first ∷ xs) kept
        (IsFirstLeast-kept (λ y. y) calls f (λ x y. beats (view.of x) (view.of y)) ranks first xs
        kept (returns_as beats answers) turns),
  )
