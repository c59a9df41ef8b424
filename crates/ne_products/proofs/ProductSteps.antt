-- The calls of a product's iterator that begin a row.
use Rattle.std.proofs.Common.{rules, subst, sym, ap, inl, inr, ◌∙◌}
use Rattle.std.specs.Prelude.{◌≡◌, Bool, true, false, Option, Some, Result, Ok, Err}
use Rattle.std.specs.Bool.{MatchBool}
use Rattle.ne_products.specs.declared.products.ProductIter.{ProductIter}
use Rattle.ne_products.specs.Product.{left_of, right_of, row_of, restart_of, is_exhausted, EndsRow}
use Rattle.ne_products.specs.Product.{PairsNext, PairsItems}

at_false : {Q : Type 0} (P : Type 0) (b : Bool) → b ≡ false → Q → MatchBool b P Q
at_false P false e q = q
at_false P true e q = let f = e in search rules

module _ {I J A B : Type 0} (lefts : I → Option A → I → Type 0)
    (rights : J → Option B → J → Type 0) (clones : A → A → Type 0) (infallible : A → Type 0)
    (copies : J → J → Type 0) (certain : J → Type 0) (s : ProductIter I J A)
    (live : is_exhausted s ≡ false) where
  abbrev Next : {E : Type 0} → Option (Result (A × B) E) → ProductIter I J A → Type 0
  Next = PairsNext lefts rights clones infallible copies certain s

  abbrev Ends : I → J → Type 0
  Ends l d = EndsRow lefts rights clones infallible copies certain s l (λ c. copies c d)

  pub begins_row : {E : Type 0} (m t : ProductIter I J A) (x : A) (y : B) (l : I) (d : J)
      (r : Result (A × B) E) → restart_of m ≡ restart_of s → is_exhausted m ≡ true → Ends l d
      → lefts l (Some x) (left_of m) → rights d (Some y) (right_of m)
      → PairsItems clones infallible m x y r t → Next (Some r) t
  begins_row m t x y l d (Ok p) same over ends came first pair = at_false _ _ live (
    x,
    ap row_of pair.2,
    pair.0,
    ap is_exhausted pair.2,
    ap restart_of pair.2 ∙ same,
    inr (
      l,
      d,
      ends,
      subst (λ q. lefts l (Some x) q) (sym (ap left_of pair.2)) came,
      rw (pair.1, pair.2) first,
    ),
  )
  begins_row m t x y l d (Err e) same over ends came first pair =
      at_false _ _ live (
        inr (inl (x, y, left_of m, right_of m, inr (l, d, ends, came, first), pair.0)),
        ap is_exhausted pair.1 ∙ over,
      )
