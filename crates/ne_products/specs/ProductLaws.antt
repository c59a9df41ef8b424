-- The law that the implementation for `Product` uses: if both sides have an item and neither has
-- been drawn from, the first call returns an item.
use Rattle.std.proofs.Common.{inl, inr}
use Rattle.std.proofs.lemmas.Bool.{MatchBool-at_false}
use Rattle.std.specs.Prelude.{◌≡◌, false, Option, None}
use Rattle.ne_iter.specs.Sources.{HasFirst}
use Rattle.ne_products.specs.declared.products.ProductIter.{ProductIter}
use Rattle.ne_products.specs.Product.{left_of, right_of, row_of, is_exhausted, EndsPairs, PairsNext}

module _ {I J A B : Type 0} (lefts : I → Option A → I → Type 0)
    (rights : J → Option B → J → Type 0) (clones : A → A → Type 0) (infallible : A → Type 0)
    (copies : J → J → Type 0) (certain : J → Type 0) where
  pub HasFirst-product : (E : Type 0) (s : ProductIter I J A) → row_of s ≡ None
      → is_exhausted s ≡ false → HasFirst lefts (left_of s) → HasFirst rights (right_of s)
      → HasFirst (PairsNext lefts rights clones infallible copies certain {E = E}) s
  HasFirst-product E s fresh live left right t ended =
      unended (MatchBool-at_false _ _ live ended).0
    where
      unended : EndsPairs lefts rights clones infallible copies certain s → ⊥
      unended (inl e) = left e.0 e.2
      unended (inr (inl e)) = right e.2 e.5
      unended (inr (inr e)) = right e.5.1 e.5.4
