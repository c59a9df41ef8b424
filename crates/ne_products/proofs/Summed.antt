-- Sums of values by key: each is at most the sum of all values so far, which fits.
use Rattle.std.proofs.Common.{ap, arith, subst, sym, ◌∙◌}
use Rattle.std.specs.Prelude.{◌≡◌, ◌≤◌, ◌<◌, ◌+◌, ◌%◌, ◌^◌, ℕ, Bool, true, false, cond, List, []}
use Rattle.std.specs.Prelude.{◌∷◌, Option, Some, None, map, refl}
use Rattle.std.specs.Borrow.{Bor}
use Rattle.std.specs.Cmp.{IsEquivalence}
use Rattle.std.specs.Fn.{Called, Mut, Takes}
use Rattle.std.specs.Iterator.{ActsAs, CallableOnAll, CallableOnAllAt}
use Rattle.std.specs.List.{FoldsTo, fold}
use Rattle.std.specs.Option.{unwrap_or}
use Rattle.ne_vec.specs.Lists.{View}
use Rattle.ne_products.specs.ByKey.{Adds, AddsByCall, AddsValue, CallableByKey, IsFoldedByKey}
use Rattle.ne_products.specs.ByKey.{KeyTurn, NamesKeys}
use Rattle.ne_products.proofs.ByKey.{folded-viewed, turns_calls, turns_fold}

-- A total is at most what more numbers make of it.
grows : {A : Type 0} (number : A → ℕ) (total : ℕ) (xs : List A)
    → total ≤ fold (λ t x. t + number x) total xs
grows number total [] = omega arith
grows number total (x ∷ xs) = omega (arith, grows number (total + number x) xs)

-- The sums by key of the items of a list, through each view.
pub sums_view : {A K F G : Type 0} (keys : Mut F (Bor A × Unit {0}) K)
    (calls : Mut G (A × Unit {0}) ℕ) (names : View K) {eq : names.Target → names.Target → Bool}
    (laws : IsEquivalence eq) (key : F) (g : G) (ys : List A) (value : names.Target → Option ℕ)
    (key' : F) (g' : G)
    → FoldsTo (KeyTurn keys (AddsValue calls) names eq 0) (key, (g, λ _. None)) ys
    (key', (g', value)) → (view : View A) (h : view.Target → names.Target)
    → NamesKeys keys names key (λ x. h (view.of x)) → (add : ℕ → view.Target → ℕ) → Adds add
    → ActsAs calls g (λ x. add 0 (view.of x)) → IsFoldedByKey value eq h add 0 (map view.of ys)
sums_view keys calls names laws key g ys value key' g' turns view h named add adds acts =
    folded-viewed laws 0 h add view.of ys value
    (turns_fold names laws 0 keys (AddsValue calls) key g (λ x. h (view.of x))
    (λ total x. add total (view.of x)) named (λ total x v k (n, called, sum).
    let here = acts x n k called in
    (here.0, sum ∙ ap (λ n. total + n) here.1 ∙ sym (adds total (view.of x))))
    [] ys (λ _. None) value key' g' (λ q. refl) turns)

-- A closure `sums`, whose state keeps that of the closure for values, adds what this one returns.
module _ {A K C F G : Type 0} (keys : Mut F (Bor A × Unit {0}) K) (calls : Mut G (A × Unit {0}) ℕ)
    (sums : Mut C (ℕ × (A × Unit {0})) ℕ) (kept : C → G) (names : View K)
    (eq : names.Target → names.Target → Bool)
    (adding : (c : C) (total : ℕ) (x : A) (v : ℕ) (d : C) → Called sums c (total, (x, tt)) v d
    → (n : ℕ) × Called calls (kept c) (x, tt) n (kept d) × (v ≡ (total + n) % 2 ^ 64)) where
  abbrev Kept : Type 0
  Kept = F × (C × (names.Target → Option ℕ))

  -- The closure for values is called in each turn.
  turns_values : (p : Kept) (xs : List A) (q : Kept)
      → FoldsTo (KeyTurn keys (AddsByCall sums) names eq 0) p xs q
      → FoldsTo (λ g x h. (n : ℕ) × Called calls g (x, tt) n h) (kept p.1.0) xs (kept q.1.0)
  turns_values p [] q same = ap (λ s. kept s.1.0) same
  turns_values p (x ∷ xs) q (s, (k, v, called, added, puts), turns) =
      let given = adding p.1.0 _ x v s.1.0 added in
      (kept s.1.0, (given.0, given.1), turns_values s xs q turns)

  pub callable_sums : {S : Type 0} (steps : S → Option A → S → Type 0) (it : S) (key : F) (c : C)
      → ((c : C) (total : ℕ) (x : A) → Takes calls (kept c) (x, tt)
      → Takes sums c (total, (x, tt)))
      → CallableOnAllAt steps keys it key → CallableOnAll steps calls it (kept c)
      → CallableByKey steps keys sums names eq it key 0 c
  callable_sums steps it key c takes asked valued = record {
    at = λ xs s q x t yields turns step. (
      asked.at xs s q.0 x t yields
          (turns_calls keys (AddsByCall sums) names eq 0 _ xs q turns) step,
      λ k key' called. takes q.1.0 _ x (valued.at xs s (kept q.1.0) x t yields
          (turns_values _ xs q turns) step),
    );
  }

  -- No turn wraps, if no value is above the total so far, and that of all fits.
  pub turns_sums : (number : A → ℕ) (total : ℕ) (p : Kept) (xs : List A) (q : Kept)
      → ActsAs calls (kept p.1.0) number
      → ((k : names.Target) → unwrap_or (p.1.1 k) 0 ≤ total)
      → fold (λ t x. t + number x) total xs < 2 ^ 64
      → FoldsTo (KeyTurn keys (AddsByCall sums) names eq 0) p xs q
      → FoldsTo (KeyTurn keys (AddsValue calls) names eq 0) (p.0, (kept p.1.0, p.1.1)) xs
      (q.0, (kept q.1.0, q.1.1))
  turns_sums number total p [] q acts below fits same =
      ap (λ (s : Kept). (s.0, (kept s.1.0, s.1.1))) same
  turns_sums number total p (x ∷ xs) q acts below fits (s, (k, v, called, added, puts), turns) =
      let so_far = unwrap_or (p.1.1 (names.of k)) 0 in
      let given = adding p.1.0 so_far x v s.1.0 added in
      let here = acts x given.0 (kept s.1.0) given.1 in
      let most = below (names.of k) in
      let sum : v ≡ so_far + given.0
      = omega (arith, given.2, here.1, most, fits, grows number (total + number x) xs) in (
        (s.0, (kept s.1.0, s.1.1)),
        (k, v, called, (given.0, given.1, sum), puts),
        turns_sums number (total + number x) s xs q
            (subst (λ g. ActsAs calls g number) (sym here.0) acts)
            (λ l. subst (λ o. unwrap_or o 0 ≤ total + number x) (sym (puts l))
            (at_most v (p.1.1 l) (omega (arith, sum, here.1, most)) (omega (arith, below l))
            (eq (names.of k) l))) fits turns,
      )
    where
      at_most : (v : ℕ) (o : Option ℕ) → v ≤ total + number x → unwrap_or o 0 ≤ total + number x
          → (b : Bool) → unwrap_or (cond b (Some v) o) 0 ≤ total + number x
      at_most v o new old true = new
      at_most v o new old false = old
