-- A call of a product's iterator that begins a row brings it nearer to its end.
use Rattle.std.proofs.Common.{rules, arith, subst, sym, ap, inl, inr, ◌∙◌}
use Rattle.std.proofs.Math.Nat.{mul-le-mul_right}
use Rattle.std.proofs.lemmas.Option.{MatchOption-at_some}
use Rattle.std.specs.Prelude.{◌≡◌, ℕ, ◌+◌, ◌*◌, ◌<◌, ◌≤◌, Bool, true, false, Some, Result, Ok}
use Rattle.std.specs.Prelude.{Err, refl}
use Rattle.std.specs.Iterator.{Count, IsFinite, size, count_map, count_unless, MakesProgress}
use Rattle.std.specs.Option.{option_len}
use Rattle.ne_products.specs.declared.products.ProductIter.{ProductIter}
use Rattle.ne_products.specs.Product.{left_of, right_of, row_of, restart_of, is_exhausted}
use Rattle.ne_products.specs.Product.{IsRowItem, CanRestart, CanPair, pairs_left, row_size}
use Rattle.ne_products.specs.Product.{PairsItems}

live_count : (b : Bool) (c : Count) → b ≡ false → count_unless b c ≡ c
live_count false c e = refl
live_count true c e = let f = e in search rules

over_finite : (b : Bool) (c : Count) → b ≡ true → IsFinite (count_unless b c)
over_finite true c e = tt
over_finite false c e = let f = e in search rules

-- k + 1 full rows and a part of one have fewer pairs than n rows.
fewer : (k n w r q : ℕ) → k + 1 < n → r < w → (k + 1) * w + r + 1 < n * w + q + 1
fewer k n w r q less small = let rowed = mul-le-mul_right w less in omega (arith, rowed, small)

module _ {I J A : Type 0} (lefts : I → Count) (rights : J → Count) where
  -- What is left if the iterator is not exhausted.
  abbrev live_left : ProductIter I J A → Count
  live_left s = count_map (λ n. (n + option_len (row_of s)) * row_size rights (restart_of s)
      + size (rights (right_of s)) + 1) (lefts (left_of s))

  pub fresh_finite : (s : ProductIter I J A) → is_exhausted s ≡ false → IsFinite (lefts (left_of s))
      → IsFinite (pairs_left lefts rights s)
  fresh_finite s live f = subst IsFinite (sym (live_count (is_exhausted s) (live_left s) live)) f

  module _ (can_left : I → Type 0) (can_right : J → Type 0) (clones : A → A → Type 0)
      (infallible : A → Type 0) (copies : J → J → Type 0) (s : ProductIter I J A)
      (live : is_exhausted s ≡ false) (can : CanPair can_left can_right rights copies s) where
    abbrev Can : ProductIter I J A → Type 0
    Can = CanPair can_left can_right rights copies

    abbrev Goes : {B E : Type 0} → Result (A × B) E → ProductIter I J A → Type 0
    Goes r t = MakesProgress Can (pairs_left lefts rights) s (Some r) t

    finite : IsFinite (pairs_left lefts rights s) → IsFinite (lefts (left_of s))
    finite f = subst IsFinite (live_count (is_exhausted s) (live_left s) live) f

    -- w is the item of the row, and l is the left side at that point.
    abbrev Row : A → I → Type 0
    Row = IsRowItem (MakesProgress can_left lefts) s

    row_found : (w : A) (l : I) → Row w l → IsFinite (lefts (left_of s)) → IsFinite (lefts l)
        × (size (lefts l) + 1 ≤ size (lefts (left_of s)) + option_len (row_of s))
    row_found w l (inl h) f = (
      subst (λ q. IsFinite (lefts q)) (sym h.1) f,
      omega (arith, ap option_len h.0, ap (λ q. size (lefts q)) h.1),
    )
    row_found w l (inr h) f =
        let p = h.1.on f in (p.1, omega (arith, p.2, ap option_len h.0))

    pub row_goes : {B E : Type 0} (m t : ProductIter I J A) (w x : A) (y : B) (l : I) (d c : J)
        (r : Result (A × B) E) → restart_of m ≡ restart_of s → is_exhausted m ≡ true
        → restart_of s ≡ Some c → copies c d → Row w l
        → MakesProgress can_left lefts l (Some x) (left_of m)
        → MakesProgress can_right rights d (Some y) (right_of m)
        → PairsItems clones infallible m x y r t → Goes r t
    row_goes m t w x y l d c (Ok p) same over has made row came first pair =
        subst (Goes (Ok p)) (sym pair.2) (record {
          on = λ f. (next, (came.on (row_found w l row (finite f)).0).1, less f);
          keeps = next;
          rests = λ f. tt;
        })
      where
        restarts : CanRestart can_right rights copies c
        restarts = MatchOption-at_some _ _ c has (can live).3

        again : can_right d × IsFinite (rights d) × (size (rights d) ≤ size (rights c))
        again = restarts.1 d made

        kept : restart_of m ≡ Some c
        kept = same ∙ has

        next : Can (record m { row = Some x; is_over = false })
        next = λ fresh. (came.keeps, first.keeps, (first.on again.1).1, rw kept restarts)

        less : IsFinite (pairs_left lefts rights s)
            → size (pairs_left lefts rights (record m { row = Some x; is_over = false }))
            < size (pairs_left lefts rights s)
        less f =
            let rest = row_found w l row (finite f) in
            let k = (came.on rest.0).2 in
            let r = (first.on again.1).2 in
            rw (live, kept, has) (fewer (size (lefts (left_of m)))
            (size (lefts (left_of s)) + option_len (row_of s)) (size (rights c))
            (size (rights (right_of m))) (size (rights (right_of s)))
            (omega (arith, k, rest.1)) (omega (arith, r, again.2)))
    row_goes m t w x y l d c (Err e) same over has made row came first pair =
        subst (Goes (Err e)) (sym pair.1) (record {
          on = λ f. (
            next,
            over_finite (is_exhausted m) (live_left m) over,
            rw (live, over) (omega arith),
          );
          keeps = next;
          rests = λ f. tt;
        })
      where
        next : Can m
        next = λ fresh. let e = sym over ∙ fresh in search rules
