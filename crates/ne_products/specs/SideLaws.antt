-- The law that the implementation for `NEEither` uses: one of two non-empty sources is not empty.
use Rattle.either.specs.declared.Either.TheVariants as side
use Rattle.std.specs.Prelude.{Option}
use Rattle.either.specs.Iterator.{either_steps}
use Rattle.ne_iter.specs.Sources.{IsNonEmpty}
use Rattle.ne_products.specs.declared.sides.NEEither.TheVariants.{Left, Right}
use Rattle.ne_products.specs.Sides.{BecomesSide}

module _ {U V S T A : Type 0} (left : U → S → Type 0) (steps : S → Option A → S → Type 0)
    (right : V → T → Type 0) (others : T → Option A → T → Type 0) where
  pub HasFirst-side : IsNonEmpty left steps → IsNonEmpty right others
      → IsNonEmpty (BecomesSide left right) (either_steps steps others)
  HasFirst-side l r (Left u) (side.Left s) made (side.Left t) ended = l u s made t ended
  HasFirst-side l r (Left u) (side.Left s) made (side.Right t) ended = absurd ended
  HasFirst-side l r (Right v) (side.Right s) made (side.Right t) ended = r v s made t ended
  HasFirst-side l r (Right v) (side.Right s) made (side.Left t) ended = absurd ended
  HasFirst-side l r (Left u) (side.Right t) made q ended = absurd made
  HasFirst-side l r (Right v) (side.Left s) made q ended = absurd made
