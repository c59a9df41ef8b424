-- A source that is one of two sources yields what the source of its side yields.
use Rattle.either.specs.declared.Either.TheVariants as side
use Rattle.std.proofs.Common.{refl, subst, sym}
use Rattle.std.specs.Prelude.{◌≡◌, Bool, true, List, [], ◌∷◌, Option, None}
use Rattle.std.specs.Iterator.{DrainsIf}
use Rattle.ne_vec.specs.ListLaws.{triggered}
use Rattle.ne_vec.specs.Lists.{EachList, Lists}
use Rattle.ne_iter.specs.Sources.{EachReading, Reads}
use Rattle.either.specs.declared.Either.{Either}
use Rattle.either.specs.Iterator.{either_steps}
use Rattle.ne_products.specs.declared.sides.NEEither.{NEEither}
use Rattle.ne_products.specs.declared.sides.NEEither.TheVariants.{Left, Right}
use Rattle.ne_products.specs.Sides.{BecomesSide, MatchSide}

module _ {S T A : Type 0} (steps : S → Option A → S → Type 0) (others : T → Option A → T → Type 0)
    (W : Type 0) where
  left_end : (s : S) (k : Either S T) → either_steps steps others (side.Left s) None k
      → (u : S) × steps s None u
  left_end s (side.Left u) st = (u, st)
  left_end s (side.Right u) st = absurd st

  right_end : (s : T) (k : Either S T) → either_steps steps others (side.Right s) None k
      → (u : T) × others s None u
  right_end s (side.Right u) st = (u, st)
  right_end s (side.Left u) st = absurd st

  drains_left : (s : S) (xs : List A) → DrainsIf (either_steps steps others) W (side.Left s) xs
      → DrainsIf steps W s xs
  drains_left s [] (t, e, fin) = (
    s,
    refl,
    λ w. left_end s (fin w).0
        (subst (λ q. either_steps steps others q None (fin w).0) (sym e) (fin w).1),
  )
  drains_left s (x ∷ xs) (t, (side.Left j, st, run), fin) =
      let rest = drains_left j xs (t, run, fin) in (rest.0, (j, st, rest.1), rest.2)
  drains_left s (x ∷ xs) (t, (side.Right j, st, run), fin) = absurd st

  drains_right : (s : T) (xs : List A) → DrainsIf (either_steps steps others) W (side.Right s) xs
      → DrainsIf others W s xs
  drains_right s [] (t, e, fin) = (
    s,
    refl,
    λ w. right_end s (fin w).0
        (subst (λ q. either_steps steps others q None (fin w).0) (sym e) (fin w).1),
  )
  drains_right s (x ∷ xs) (t, (side.Right j, st, run), fin) =
      let rest = drains_right j xs (t, run, fin) in (rest.0, (j, st, rest.1), rest.2)
  drains_right s (x ∷ xs) (t, (side.Left j, st, run), fin) = absurd st

module _ {U V S T A : Type 0} (left : U → S → Type 0) (steps : S → Option A → S → Type 0)
    (right : V → T → Type 0) (others : T → Option A → T → Type 0) where
  abbrev SideReads : Bool → NEEither U V → List A → Type 0
  SideReads = Reads (BecomesSide left right) (either_steps steps others)

  left_reads : (whole : Bool) (u : U) (xs : List A) (k : Either S T)
      → BecomesSide left right (Left u) k
      → DrainsIf (either_steps steps others) (whole ≡ true) k xs → Reads left steps whole u xs
  left_reads whole u xs (side.Left s) made given = record {
    it = s;
    made = made;
    given = drains_left steps others (whole ≡ true) s xs given;
  }
  left_reads whole u xs (side.Right t) made given = absurd made

  right_reads : (whole : Bool) (v : V) (xs : List A) (k : Either S T)
      → BecomesSide left right (Right v) k
      → DrainsIf (either_steps steps others) (whole ≡ true) k xs → Reads right others whole v xs
  right_reads whole v xs (side.Right t) made given = record {
    it = t;
    made = made;
    given = drains_right steps others (whole ≡ true) t xs given;
  }
  right_reads whole v xs (side.Left s) made given = absurd made

  pub side_reads : (e : NEEither U V) → EachReading SideReads e (λ whole xs. MatchSide e
      (λ u. Reads left steps whole u xs)
      (λ v. Reads right others whole v xs))
  side_reads (Left u) whole xs read = left_reads whole u xs read.it read.made read.given
  side_reads (Right v) whole xs read = right_reads whole v xs read.it read.made read.given

  pub side_lists : (e : NEEither U V) → MatchSide e
      (λ u. EachList (Lists left steps (λ x. x)) u
      (Lists (BecomesSide left right) (either_steps steps others) (λ x. x) e))
      (λ v. EachList (Lists right others (λ x. x)) v
      (Lists (BecomesSide left right) (either_steps steps others) (λ x. x) e))
  unfolding Lists
  side_lists (Left u) = λ xs lists. (
    triggered u xs,
    λ it made whole ys given. let read = left_reads whole u ys it made given in
        lists read.it read.made whole ys read.given,
  )
  side_lists (Right v) = λ xs lists. (
    triggered v xs,
    λ it made whole ys given. let read = right_reads whole v ys it made given in
        lists read.it read.made whole ys read.given,
  )
