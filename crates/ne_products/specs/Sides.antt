-- The two cases of an `NEEither`, as a value of one of two types and as one of two sources. For a
-- source that is one of two vectors, `by_side (λ v. v) (λ w. w)` is the list of that vector.
use Rattle.either.specs.declared.Either.TheVariants as side
use Rattle.std.specs.Prelude.{List}
use Rattle.ne_vec.specs.Lists.{Naming}
use Rattle.either.specs.declared.Either.{Either}
use Rattle.ne_products.specs.declared.sides.NEEither.{NEEither}
use Rattle.ne_products.specs.declared.sides.NEEither.TheVariants.{Left, Right}

-- The result of f for a `Left`, and of g for a `Right`.
abbrev pub by_side : {U V X : Type 0} → (U → X) → (V → X) → NEEither U V → X
by_side f g (Left u) = f u
by_side f g (Right v) = g v

-- For the automatic proof: if f and g name the lists of the two sides, `gives` holds for e's list.
abbrev pub SideLists : {U V A : Type 0} → (U → List A → Type 0) → (V → List A → Type 0)
    → (List A → Type 0) → NEEither U V → Type 0
SideLists {U} {V} {A} lefts rights gives e = (f : U → List A) (g : V → List A)
    → Naming (by_side f g e)
    (λ xs. ((u : U) → lefts u (f u)) → ((v : V) → rights v (g v)) → gives xs)

-- P holds for a `Left`, and Q for a `Right`.
abbrev pub MatchSide : {U V : Type 0} → NEEither U V → (U → Type 0) → (V → Type 0) → Type 0
MatchSide (Left u) P Q = P u
MatchSide (Right v) P Q = Q v

module _ {U V S T : Type 0} (left : U → S → Type 0) (right : V → T → Type 0) where
  -- The source in the `NEEither` becomes the iterator of the same side.
  abbrev pub BecomesSide : NEEither U V → Either S T → Type 0
  BecomesSide (Left u) (side.Left s) = left u s
  BecomesSide (Right v) (side.Right t) = right v t
  BecomesSide (Left u) (side.Right t) = ⊥
  BecomesSide (Right v) (side.Left s) = ⊥

  -- The value in the first `NEEither` makes the source in the second, on the same side.
  abbrev pub MakesSide : NEEither U V → NEEither S T → Type 0
  MakesSide (Left u) (Left s) = left u s
  MakesSide (Right v) (Right t) = right v t
  MakesSide (Left u) (Right t) = ⊥
  MakesSide (Right v) (Left s) = ⊥
