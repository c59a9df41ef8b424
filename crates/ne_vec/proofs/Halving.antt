-- The invariant of a binary search, and what it finds by a key.
use Rattle.std.proofs.Common.{◌≡◌, ◌⊎◌, inl, inr, ℕ, ◌+◌, ◌<◌, ◌≤◌, Bool, true, false}
use Rattle.std.proofs.Common.{List, [], ◌∷◌, length, refl, ap, subst, ◌∙◌, arith}
use Rattle.std.proofs.Common.{⊎_elim}
use Rattle.std.proofs.lemmas.Bool.{cases_lt}
use Rattle.std.proofs.lemmas.List.Elements.{All-map}
use Rattle.std.proofs.lemmas.List.Sorted.{searchable_from_sorted}
use Rattle.std.proofs.lemmas.Option.{slice_get_cases, slice_get-map}
use Rattle.std.specs.Prelude.{slice_index_or, All, Result, Ok, Err, MatchResult}
use Rattle.std.specs.Prelude.{map, ◌≢◌}
use Rattle.std.specs.Option.{option_map}
use Rattle.std.specs.Cmp.{IsTotalOrder}
use Rattle.std.specs.Borrow.{Bor}
use Rattle.std.specs.Fn.{Mut, CalledAt}
use Rattle.std.specs.List.{FoldsTo, AllWithin, HoldsAt}
use Rattle.std.specs.List.Sorted.{IsBinarySearchResult, IsNonDecreasingBy}
use Rattle.std.specs.List.Sorted.{IsPartitionPoint, IsSearchInRange, IsSortedBy}
use Rattle.std.specs.Ordering.{is_gt, is_lt, ordering_index}
use Rattle.std.specs.declared.cmp.Ordering.{Ordering}
use Rattle.std.specs.declared.cmp.Ordering.TheVariants.{Less, Equal, Greater}
use Rattle.ne_vec.specs.KeyOrder.{KeysAscend}
use Rattle.ne_vec.specs.Searches.{CallableAtItems, HasKeyAt}
use denote.Param.Always.{always_mut, mut_next}

module _ {F A R : Type 0} (calls : Mut F (Bor A × Unit {0}) R) (xs : List A) where
  stays_callable : (shown : List A) (f g : F)
      → FoldsTo (λ p x q. (r : R) × CalledAt calls p x r q) f shown g
      → always_mut calls f → always_mut calls g
  stays_callable [] f g same always = subst (always_mut calls) same always
  stays_callable (x ∷ shown) f g (j, (r, called), later) always =
      stays_callable shown j g later
      (mut_next calls f (called.shown, tt) r j j called.called refl always)

  -- The closure may be called with the items if it may be called with any value.
  pub items_always : (f : F) → always_mut calls f → CallableAtItems calls f xs
  items_always f always =
      record {
        at = λ shown g among folds k d inside y read.
            ((stays_callable shown f g folds always).at ((y, tt) ∷ [])).0;
      }

not_both : (b : Bool) → b ≡ true → b ≡ false → ⊥
not_both true p q = absurd cc
not_both false p q = absurd cc

top : (o : Ordering) → 2 ≤ ordering_index o → o ≡ Greater
top Less h = absurd (omega arith)
top Equal h = absurd (omega arith)
top Greater h = refl

bottom : (o : Ordering) → ordering_index o ≤ 0 → o ≡ Less
bottom Less h = refl
bottom Equal h = absurd (omega arith)
bottom Greater h = absurd (omega arith)

greater : (o : Ordering) → is_gt o ≡ true → o ≡ Greater
greater Less h = absurd cc
greater Equal h = absurd cc
greater Greater h = refl

module _ {A : Type 0} (order : A → Ordering) (xs : List A) where
  -- The items are in ascending order.
  abbrev Rises : Type 0
  Rises = IsNonDecreasingBy (λ y. ordering_index (order y)) xs

  -- base is 0, or its item is not `Greater`; in ascending items each from base + size on is.
  pub record Narrowed (base size : ℕ) : Type 0 where
    pub low : (base ≡ 0) ⊎ HoldsAt (λ y. is_gt (order y) ≡ false) xs base
    pub high : IsNonDecreasingBy (λ y. ordering_index (order y)) xs
        → AllWithin (λ y. order y ≡ Greater) xs (base + size) (length xs)

  past_greater : (m low : ℕ) → m ≤ low → HoldsAt (λ y. order y ≡ Greater) xs m → Rises
      → AllWithin (λ y. order y ≡ Greater) xs low (length xs)
  past_greater m low h is rises k d a b =
      let P : Ordering → Type 0 =
      λ o. ordering_index o ≤ ordering_index (order (slice_index_or xs k d)) in
      top _ (subst P (is d) (rises m k d (omega arith) b))

  pub lower : (base size mid left : ℕ) → mid ≤ base + left → Narrowed base size
      → HoldsAt (λ y. is_gt (order y) ≡ true) xs mid → Narrowed base left
  lower base size mid left h n is =
      record { low = n.low; high = past_greater mid (base + left) h (λ d. greater _ (is d)) }

  pub upper : (base size mid left : ℕ) → base + size ≤ mid + left → Narrowed base size
      → HoldsAt (λ y. is_gt (order y) ≡ false) xs mid → Narrowed mid left
  upper base size mid left h n is =
      record { low = inr is; high = λ rises k d a b. n.high rises k d (omega arith) b }

  pub after_less : (base size : ℕ) → size ≤ 1 → base < length xs → Narrowed base size
      → HoldsAt (λ y. order y ≡ Less) xs base → Rises
      → IsPartitionPoint (λ y. order y ≡ Less) (λ y. order y ≡ Greater) xs (base + 1)
  after_less base size one inside n is rises = (
    λ k d a b.
        let P : Ordering → Type 0 =
        λ o. ordering_index (order (slice_index_or xs k d)) ≤ ordering_index o in
        bottom _ (subst P (is d) (rises k base d (omega arith) inside)),
    λ k d a b. n.high rises k d (omega arith) b,
  )

  in_front : (base : ℕ) → (base ≡ 0) ⊎ HoldsAt (λ y. is_gt (order y) ≡ false) xs base
      → HoldsAt (λ y. order y ≡ Greater) xs base → AllWithin (λ y. order y ≡ Less) xs 0 base
  in_front base (inl e) is k d a b = absurd (omega arith)
  in_front base (inr not) is k d a b = absurd (not_both _ (ap is_gt (is d)) (not d))

  pub at_greater : (base size : ℕ) → Narrowed base size
      → HoldsAt (λ y. order y ≡ Greater) xs base → Rises
      → IsPartitionPoint (λ y. order y ≡ Less) (λ y. order y ≡ Greater) xs base
  at_greater base size n is rises =
      (in_front base n.low is, past_greater base base (omega arith) is rises)

unequal : (o : Ordering) → o ≡ Equal → (o ≡ Less) ⊎ (o ≡ Greater) → ⊥
unequal o e (inl l) = absurd cc
unequal o e (inr l) = absurd cc

module _ {A K : Type 0} {cmp : K → K → Ordering} (total : IsTotalOrder cmp) (key : A → K) (k : K)
    (xs : List A) where
  adjacent : KeysAscend key cmp xs → IsSortedBy (λ x y. is_lt (cmp (key x) (key y))) xs
  unfolding KeysAscend
  adjacent up i d a b = up i (i + 1) d (omega arith) (omega arith)

  key_at : (i : ℕ) → i < length xs → HoldsAt (λ y. cmp (key y) k ≡ Equal) xs i
      → HasKeyAt key cmp k xs i
  key_at i inside equal =
      elim (slice_get_cases xs i).1 [
        | inl s ↦ (
          s.0,
          s.2,
          slice_get-map key xs i ∙ ap (option_map key) s.2,
          subst (λ y. cmp (key y) k ≡ Equal) s.3 (equal s.0),
        )
        | inr s ↦ absurd (omega (arith, s.0))
      ]

  -- What a search finds among items whose keys ascend.
  pub items_of : (r : Result ℕ ℕ) → IsSearchInRange r (length xs)
      → IsBinarySearchResult (λ y. cmp (key y) k) xs r → KeysAscend key cmp xs
      → MatchResult r (HasKeyAt key cmp k xs) (λ _. All (λ x. cmp (key x) k ≢ Equal) xs)
  items_of (Ok i) inside equal up = key_at i inside equal
  items_of (Err i) inside parted up =
      let p = parted (searchable_from_sorted total key xs k (adjacent up)) in
      λ j d lt e. unequal _ e
      (⊎_elim (λ l. inl (p.0 j d (omega arith) l)) (λ l. inr (p.1 j d l lt)) (cases_lt j i))

  -- From a search among items to one among their keys.
  pub keys_of : (r : Result ℕ ℕ) → IsSearchInRange r (length xs)
      → IsBinarySearchResult (λ y. cmp (key y) k) xs r
      → MatchResult r (HasKeyAt key cmp k xs)
      (λ _. KeysAscend key cmp xs → All (λ s. cmp s k ≢ Equal) (map key xs))
  keys_of (Ok i) inside equal = key_at i inside equal
  keys_of (Err i) inside parted =
      λ up. All-map (λ s. cmp s k ≢ Equal) key xs (items_of (Err i) inside parted up)
