-- The order of lists: the first place at which they differ decides.
use Rattle.std.proofs.Common.{◌≡◌, ◌≢◌, ◌↔◌, List, [], ◌∷◌, ◌++◌, refl, ap, ◌∙◌}
use Rattle.std.specs.Prelude.{Option, Some, None}
use Rattle.std.specs.Cmp.{IsTotalOrder}
use Rattle.std.specs.Cmp.Lexicographic.{slice_cmp, slice_partial_cmp}
use Rattle.std.specs.List.{AllZip}
use Rattle.std.specs.declared.cmp.Ordering.{Ordering}
use Rattle.std.specs.declared.cmp.Ordering.TheVariants.{Less, Equal, Greater}
use Rattle.std.specs.Ordering.{ordering_then, partial_ordering_then, ordering_reverse}

own_reverse : (o : Ordering) → o ≡ ordering_reverse o → o ≡ Equal
own_reverse Less e = absurd cc
own_reverse Equal e = refl
own_reverse Greater e = absurd cc

decided : (o p : Ordering) → o ≢ Equal → ordering_then o p ≡ o
decided Less p n = refl
decided Equal p n = absurd (n refl)
decided Greater p n = refl

partly_decided : (o p : Option Ordering) → o ≢ Some Equal → partial_ordering_then o p ≡ o
partly_decided None p n = refl
partly_decided (Some Less) p n = refl
partly_decided (Some Equal) p n = absurd (n refl)
partly_decided (Some Greater) p n = refl

-- Two results combine to `Equal` only if both are `Equal`.
both_equal : (o p : Ordering) → ordering_then o p ≡ Equal → (o ≡ Equal) × (p ≡ Equal)
both_equal Less p e = absurd cc
both_equal Equal p e = (refl, e)
both_equal Greater p e = absurd cc

both_some_equal : (o p : Option Ordering) → partial_ordering_then o p ≡ Some Equal
    → (o ≡ Some Equal) × (p ≡ Some Equal)
both_some_equal None p e = absurd cc
both_some_equal (Some Less) p e = absurd cc
both_some_equal (Some Equal) p e = (refl, e)
both_some_equal (Some Greater) p e = absurd cc

-- Items that tie at each place are passed over: lists compare as the items after them.
module _ {A : Type 0} (cmp : A → A → Ordering) where
  abbrev pub Tie : List A → List A → Type 0
  Tie v w = AllZip (λ a b. cmp a b ≡ Equal) v w

  step : (x y : A) (v w : List A) → cmp x y ≡ Equal
      → slice_cmp cmp (x ∷ v) (y ∷ w) ≡ slice_cmp cmp v w
  step x y v w e = ap (λ o. ordering_then o (slice_cmp cmp v w)) e

  past_ties : (prefix other v w : List A) → Tie prefix other
      → slice_cmp cmp (prefix ++ v) (other ++ w) ≡ slice_cmp cmp v w
  past_ties [] [] v w h = refl
  past_ties [] (y ∷ other) v w h = absurd h
  past_ties (x ∷ prefix) [] v w h = absurd h
  past_ties (x ∷ prefix) (y ∷ other) v w h =
      step x y (prefix ++ v) (other ++ w) h.0 ∙ past_ties prefix other v w h.1

  pub ties_differ : (prefix other v w : List A) (x y : A) → Tie prefix other → cmp x y ≢ Equal
      → slice_cmp cmp (prefix ++ x ∷ v) (other ++ y ∷ w) ≡ cmp x y
  ties_differ prefix other v w x y h n =
      past_ties prefix other (x ∷ v) (y ∷ w) h ∙ decided (cmp x y) (slice_cmp cmp v w) n

  pub ties_shorter : (prefix other w : List A) (y : A) → Tie prefix other
      → slice_cmp cmp prefix (other ++ y ∷ w) ≡ Less
  ties_shorter [] [] w y h = refl
  ties_shorter [] (z ∷ other) w y h = absurd h
  ties_shorter (x ∷ prefix) [] w y h = absurd h
  ties_shorter (x ∷ prefix) (z ∷ other) w y h =
      step x z prefix (other ++ y ∷ w) h.0 ∙ ties_shorter prefix other w y h.1

  pub ties_longer : (prefix other v : List A) (x : A) → Tie prefix other
      → slice_cmp cmp (prefix ++ x ∷ v) other ≡ Greater
  ties_longer [] [] v x h = refl
  ties_longer [] (z ∷ other) v x h = absurd h
  ties_longer (y ∷ prefix) [] v x h = absurd h
  ties_longer (y ∷ prefix) (z ∷ other) v x h =
      step y z (prefix ++ x ∷ v) other h.0 ∙ ties_longer prefix other v x h.1

  ties_from : (v w : List A) → slice_cmp cmp v w ≡ Equal → Tie v w
  ties_from [] [] e = tt
  ties_from [] (y ∷ w) e = absurd cc
  ties_from (x ∷ v) [] e = absurd cc
  ties_from (x ∷ v) (y ∷ w) e =
      let both = both_equal (cmp x y) (slice_cmp cmp v w) e in (both.0, ties_from v w both.1)

  ties_to : (v w : List A) → Tie v w → slice_cmp cmp v w ≡ Equal
  ties_to [] [] h = refl
  ties_to [] (y ∷ w) h = absurd h
  ties_to (x ∷ v) [] h = absurd h
  ties_to (x ∷ v) (y ∷ w) h = step x y v w h.0 ∙ ties_to v w h.1

  pub ties_equal : (v w : List A) → (slice_cmp cmp v w ≡ Equal) ↔ Tie v w
  ties_equal v w = (ties_from v w, ties_to v w)

-- Items that tie at each place are passed over, also if two items may have no order.
module _ {A : Type 0} (cmp : A → A → Option Ordering) where
  abbrev pub PartlyTie : List A → List A → Type 0
  PartlyTie v w = AllZip (λ a b. cmp a b ≡ Some Equal) v w

  step_partly : (x y : A) (v w : List A) → cmp x y ≡ Some Equal
      → slice_partial_cmp cmp (x ∷ v) (y ∷ w) ≡ slice_partial_cmp cmp v w
  step_partly x y v w e = ap (λ o. partial_ordering_then o (slice_partial_cmp cmp v w)) e

  past_partial_ties : (prefix other v w : List A) → PartlyTie prefix other
      → slice_partial_cmp cmp (prefix ++ v) (other ++ w) ≡ slice_partial_cmp cmp v w
  past_partial_ties [] [] v w h = refl
  past_partial_ties [] (y ∷ other) v w h = absurd h
  past_partial_ties (x ∷ prefix) [] v w h = absurd h
  past_partial_ties (x ∷ prefix) (y ∷ other) v w h =
      step_partly x y (prefix ++ v) (other ++ w) h.0 ∙ past_partial_ties prefix other v w h.1

  pub partial_ties_differ : (prefix other v w : List A) (x y : A) → PartlyTie prefix other
      → cmp x y ≢ Some Equal → slice_partial_cmp cmp (prefix ++ x ∷ v) (other ++ y ∷ w) ≡ cmp x y
  partial_ties_differ prefix other v w x y h n =
      past_partial_ties prefix other (x ∷ v) (y ∷ w) h
      ∙ partly_decided (cmp x y) (slice_partial_cmp cmp v w) n

  pub partial_ties_shorter : (prefix other w : List A) (y : A) → PartlyTie prefix other
      → slice_partial_cmp cmp prefix (other ++ y ∷ w) ≡ Some Less
  partial_ties_shorter [] [] w y h = refl
  partial_ties_shorter [] (z ∷ other) w y h = absurd h
  partial_ties_shorter (x ∷ prefix) [] w y h = absurd h
  partial_ties_shorter (x ∷ prefix) (z ∷ other) w y h =
      step_partly x z prefix (other ++ y ∷ w) h.0 ∙ partial_ties_shorter prefix other w y h.1

  pub partial_ties_longer : (prefix other v : List A) (x : A) → PartlyTie prefix other
      → slice_partial_cmp cmp (prefix ++ x ∷ v) other ≡ Some Greater
  partial_ties_longer [] [] v x h = refl
  partial_ties_longer [] (z ∷ other) v x h = absurd h
  partial_ties_longer (y ∷ prefix) [] v x h = absurd h
  partial_ties_longer (y ∷ prefix) (z ∷ other) v x h =
      step_partly y z (prefix ++ x ∷ v) other h.0 ∙ partial_ties_longer prefix other v x h.1

  partial_ties_from : (v w : List A) → slice_partial_cmp cmp v w ≡ Some Equal → PartlyTie v w
  partial_ties_from [] [] e = tt
  partial_ties_from [] (y ∷ w) e = absurd cc
  partial_ties_from (x ∷ v) [] e = absurd cc
  partial_ties_from (x ∷ v) (y ∷ w) e =
      let both = both_some_equal (cmp x y) (slice_partial_cmp cmp v w) e in
      (both.0, partial_ties_from v w both.1)

  partial_ties_to : (v w : List A) → PartlyTie v w → slice_partial_cmp cmp v w ≡ Some Equal
  partial_ties_to [] [] h = refl
  partial_ties_to [] (y ∷ w) h = absurd h
  partial_ties_to (x ∷ v) [] h = absurd h
  partial_ties_to (x ∷ v) (y ∷ w) h = step_partly x y v w h.0 ∙ partial_ties_to v w h.1

  pub partial_ties_equal : (v w : List A) → (slice_partial_cmp cmp v w ≡ Some Equal) ↔ PartlyTie v w
  partial_ties_equal v w = (partial_ties_from v w, partial_ties_to v w)

-- Under a total order each list ties with itself.
module _ {A : Type 0} (cmp : A → A → Ordering) (total : IsTotalOrder cmp) where
  itself : (v : List A) → Tie cmp v v
  itself [] = tt
  itself (x ∷ v) = (own_reverse (cmp x x) (total.antisymm x x), itself v)

  pub differs : (prefix v w : List A) (x y : A) → cmp x y ≢ Equal
      → slice_cmp cmp (prefix ++ x ∷ v) (prefix ++ y ∷ w) ≡ cmp x y
  differs prefix v w x y = ties_differ cmp prefix prefix v w x y (itself prefix)

  pub shorter : (prefix w : List A) (y : A) → slice_cmp cmp prefix (prefix ++ y ∷ w) ≡ Less
  shorter prefix w y = ties_shorter cmp prefix prefix w y (itself prefix)

  pub longer : (prefix v : List A) (x : A) → slice_cmp cmp (prefix ++ x ∷ v) prefix ≡ Greater
  longer prefix v x = ties_longer cmp prefix prefix v x (itself prefix)

  pub same_list : (v : List A) → slice_cmp cmp v v ≡ Equal
  same_list v = ties_to cmp v v (itself v)
