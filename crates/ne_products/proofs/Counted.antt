-- Counts of items, as folds that add one and would wrap, and that do not since all items fit.
use Rattle.std.proofs.Common.{ap, append_assoc, arith, false, inl, inr, refl, subst, sym}
use Rattle.std.proofs.Common.{true≢false}
use Rattle.std.proofs.Common.{◌∙◌}
use Rattle.std.proofs.iter.runs.Made.{fits_after, run, seen}
use Rattle.std.specs.Prelude.{◌≡◌, ◌≤◌, ◌<◌, ◌+◌, ◌%◌, ◌^◌, ℕ, Bool, true, cond, List, []}
use Rattle.std.specs.Prelude.{◌∷◌, length}
use Rattle.std.specs.Prelude.{Option, Some, ◌++◌, map}
use Rattle.std.proofs.lemmas.List.{length-map, length_push}
use Rattle.std.specs.Cmp.{IsEquivalence}
use Rattle.std.specs.Option.{unwrap_or}
use Rattle.ne_iter.specs.KeyedMap.{PutsValue}
use Rattle.ne_products.proofs.ByKey.{folded-more, folded-viewed}
use Rattle.std.specs.Iterator.{Count, IsFinite, MakesProgress}
use Rattle.std.specs.Iterator.Runs.{CountFits}
use Rattle.std.specs.List.{filter, fold}
use Rattle.ne_products.specs.ByKey.{IsCounted, IsFoldedByKey, fold_some, of_some}

-- One more, as a `usize` counts.
abbrev pub one_more : {A : Type 0} → ℕ → A → ℕ
one_more n x = (n + 1) % 2 ^ 64

-- A count that fits is below the range.
pub fits_below : {S A : Type 0} (steps : S → Option A → S → Type 0) (left : S → Count)
    (n : ℕ) (s : S)
    → CountFits steps left n s → n < 2 ^ 64
fits_below steps left n s (inl h) = omega (arith, h)
fits_below steps left n s (inr h) =
    let none = run steps s [] false (s, refl, λ e. absurd (true≢false (sym e))) in
    let fits = h none none.seen refl (seen _) in omega (arith, fits)

-- it fits after one more item.
pub fits_push : {S A : Type 0} (steps : S → Option A → S → Type 0) (can : S → Type 0)
    (left : S → Count) (n m : ℕ) (s : S) (x : A) (t : S) → m ≡ n + 1
    → CountFits steps left n s × can s × IsFinite (left s) → steps s (Some x) t
    → MakesProgress can left s (Some x) t → CountFits steps left m t × can t × IsFinite (left t)
fits_push steps can left n m s x t next (fits, ready, ends) step goes =
    let p = goes.on ends in (
      subst (λ k. CountFits steps left k t) (sym next)
          (fits_after steps left n s x t fits step p.2),
      p.0,
      p.1,
    )

wraps_not : (n : ℕ) → n + 1 < 2 ^ 64 → (n + 1) % 2 ^ 64 ≡ n + 1
wraps_not n h = omega (arith, h)

folds_length : {A : Type 0} (n : ℕ) (ys : List A) → n + length ys < 2 ^ 64
    → fold one_more n ys ≡ n + length ys
folds_length n [] h = omega arith
folds_length n (y ∷ ys) h =
    let now = wraps_not n (omega (arith, h)) in
    ap (λ m. fold one_more m ys) now ∙ folds_length (n + 1) ys (omega (arith, h)) ∙ omega arith

shorter : {A : Type 0} (t : A → Bool) (ys : List A) → length (filter t ys) ≤ length ys
shorter t [] = omega arith
shorter {A} t (y ∷ ys) = by (t y) (shorter t ys)
  where
    by : (b : Bool) → length (filter t ys) ≤ length ys
        → length (cond b (y ∷ filter t ys) (filter t ys)) ≤ length (y ∷ ys)
    by true h = omega (arith, h)
    by false h = omega (arith, h)

some_length : {A : Type 0} (ys : List A) → length ys < 2 ^ 64
    → fold_some one_more 0 ys ≡ of_some length ys
some_length [] h = refl
some_length (y ∷ ys) h = ap Some (folds_length 0 (y ∷ ys) (omega (arith, h)) ∙ omega arith)

-- If all items fit, the folds are the counts.
pub counted : {A N : Type 0} {eq : N → N → Bool} (laws : IsEquivalence eq) (name : A → N)
    (value : N → Option ℕ) (xs : List A) → length xs < 2 ^ 64
    → IsFoldedByKey value eq name one_more 0 xs → IsCounted value eq (map name xs)
counted {eq = eq} laws name value xs fits folded q =
    let names = map name xs in
    folded-viewed laws 0 (λ n. n) one_more name xs value folded q
    ∙ some_length (filter (eq q) names)
    (omega (arith, fits, shorter (eq q) names, length-map xs name))

module _ {S A N : Type 0} {eq : N → N → Bool} (laws : IsEquivalence eq) (name : A → N)
    (steps : S → Option A → S → Type 0) (can : S → Type 0) (left : S → Count)
    (start : N → Option ℕ) where
  -- The number of items so far, xs, one before them, and those that are left fits. The values were
  -- `start`, and are now the counts with xs.
  abbrev pub CountsSoFar : List A → S → (N → Option ℕ) → Type 0
  CountsSoFar xs it value =
      (CountFits steps left (length xs + 1) it × can it × IsFinite (left it))
      × ((before : List A) → IsFoldedByKey start eq name one_more 0 before
      → IsFoldedByKey value eq name one_more 0 (before ++ xs))

  -- One more item, x, which was counted n times.
  pub counts_more : (xs : List A) (it : S) (value : N → Option ℕ) (x : A) (after : S)
      (new : N → Option ℕ) (o : Option ℕ) → CountsSoFar xs it value → steps it (Some x) after
      → MakesProgress can left it (Some x) after → value (name x) ≡ o
      → PutsValue eq value (name x) (one_more (unwrap_or o 0) x) new
      → CountsSoFar (xs ++ x ∷ []) after new
  counts_more xs it value x after new o so_far step goes here puts = (
    fits_push steps can left (length xs + 1) (length (xs ++ x ∷ []) + 1) it x after
        (omega (arith, length_push xs x)) so_far.0 step goes,
    λ before folded. subst (λ l. IsFoldedByKey new eq name one_more 0 l)
        (append_assoc before xs (x ∷ [])) (folded-more laws 0 name one_more
        (before ++ xs) x value new
        (subst (λ o. PutsValue eq value (name x) (one_more (unwrap_or o 0) x) new)
        (sym here) puts) (so_far.1 before folded)),
  )
