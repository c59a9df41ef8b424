-- The greatest and the least of a list.
use Rattle.std.proofs.Common.{arith, ap, sym, ◌∙◌, subst, true≢false, ltb, eqb, ltb-false}
use Rattle.std.proofs.Common.{get_or, le_antisymm}
use Rattle.std.specs.Prelude.{◌≡◌, ℕ, ◌≤◌, ◌<◌, Bool, true, false, cond, List, ◌∷◌, length, All}
use Rattle.std.specs.Prelude.{Contains, refl, map}
use Rattle.std.specs.Option.{option_map}
use Rattle.std.specs.Cmp.{IsStrictWeakOrder}
use Rattle.std.specs.Ordering.{is_lt, nat_cmp}
use Rattle.std.specs.declared.cmp.Ordering.TheVariants.{Less, Equal, Greater}
use Rattle.std.proofs.lemmas.Cmp.{nat_cmp_total}
use Rattle.std.proofs.lemmas.List.{get_or-map, get_or-take, length-map, length-take}
use Rattle.std.proofs.lemmas.List.MinMax.{IsFirstBest-from_best_of, IsStrictWeakOrder-flip}
use Rattle.std.proofs.lemmas.List.MinMax.{ranks_by}
use Rattle.std.proofs.lemmas.Option.{get_or_from_slice_get, slice_get-get_or, slice_get-map}
use Rattle.ne_iter.specs.Consumers.{less_by, IsBestOfList, IsFirstLeast}

not_less_by : (x y : ℕ) (a b : Bool) → ltb x y ≡ a
    → is_lt (cond a Less (cond b Equal Greater)) ≡ false → y ≤ x
not_less_by x y true b e h = absurd (true≢false h)
not_less_by x y false b e h = ltb-false x y e

-- If a number is not less than another, the other is at most that number.
pub not_less : (x y : ℕ) → less_by nat_cmp x y ≡ false → y ≤ x
not_less x y h = not_less_by x y (ltb x y) (eqb x y) refl h

module _ {A : Type 0} (beats : A → A → Bool) where
  -- The first best item, by its place.
  pub best_of_list : (xs : List A) (best : A) → IsFirstLeast beats xs best
      → IsBestOfList beats xs best
  best_of_list xs best (place, first, e) =
      let at : (d : A) → get_or xs place d ≡ best
      = λ d. get_or_from_slice_get xs place best d e in (
        (place, first.0, at best),
        λ k d within. subst (λ y. beats (get_or xs k d) y ≡ false) (at d) (first.1 k d within),
        (
          place,
          e,
          λ k d within.
              let before : k < place = omega (arith, within, length-take place xs) in
              subst (λ y. beats best y ≡ true) (sym (get_or-take place xs k d before))
              (subst (λ y. beats y (get_or xs k d) ≡ true) (at d) (first.2 k d before)),
        ),
      )

  -- R holds for an item and each item that does not beat it, and so for the best item and each
  -- item.
  -- If `beats` is an order, a list has a best item, and R holds for this item and each item.
  best_there : (R : A → A → Type 0) → ((x y : A) → beats y x ≡ false → R x y)
      → IsStrictWeakOrder beats → (x : A) (xs : List A)
      → (best : A) × (Contains (x ∷ xs) best × All (λ n. R best n) (x ∷ xs))
  best_there R means o x xs =
      let p = IsFirstBest-from_best_of o x xs in
      let best = get_or (x ∷ xs) p.0 x in
      let is = best_of_list (x ∷ xs) best
      (p.0, p.1, slice_get-get_or (x ∷ xs) p.0 x p.1.0) in
      (best, (is.0, λ k d within. means best (get_or (x ∷ xs) k d) (is.1 k d within)))

module _ {A B : Type 0} (of : A → B) where
  pub contains_through : (xs : List A) (x : A) → Contains xs x → Contains (map of xs) (of x)
  contains_through xs x (k, within, e) = (
    k,
    subst (λ n. k < n) (sym (length-map xs of)) within,
    get_or-map of xs k x (of x) within ∙ ap of e,
  )

  -- The first best item, by a test of what `of` makes of two items.
  pub first_through : (beats : B → B → Bool) (xs : List A) (m : A)
      → IsFirstLeast (λ x y. beats (of x) (of y)) xs m → IsFirstLeast beats (map of xs) (of m)
  first_through beats xs m (place, (within, all, before), e) =
      let at : (k : ℕ) (d : B) → k < length xs → get_or (map of xs) k d ≡ of (get_or xs k m)
      = λ k d less. get_or-map of xs k m d less in
      let long = length-map xs of in (
        place,
        (
          subst (λ n. place < n) (sym long) within,
          λ k d less.
              let inside : k < length xs = subst (λ n. k < n) long less in
              subst (λ x. beats x (get_or (map of xs) place d) ≡ false) (sym (at k d inside))
              (subst (λ y. beats (of (get_or xs k m)) y ≡ false) (sym (at place d within))
              (all k m inside)),
          λ k d less.
              let inside : k < length xs = omega (arith, less, within) in
              subst (λ x. beats x (get_or (map of xs) k d) ≡ true) (sym (at place d within))
              (subst (λ y. beats (of (get_or xs place m)) y ≡ true) (sym (at k d inside))
              (before k m less)),
        ),
        slice_get-map of xs place ∙ ap (option_map of) e,
      )

holds_of : {A : Type 0} (P : A → Type 0) (xs : List A) (x : A) → All P xs → Contains xs x → P x
holds_of P xs x all there = subst P there.2 (all there.0 x there.1)

number_order : IsStrictWeakOrder (less_by nat_cmp)
number_order = ranks_by nat_cmp_total (λ x. x)

pub least_there : (x : ℕ) (xs : List ℕ)
    → (m : ℕ) × (Contains (x ∷ xs) m × All (λ n. m ≤ n) (x ∷ xs))
least_there = best_there (less_by nat_cmp) (λ m n. m ≤ n) (λ x y h. not_less y x h) number_order

pub greatest_there : (x : ℕ) (xs : List ℕ)
    → (m : ℕ) × (Contains (x ∷ xs) m × All (λ n. n ≤ m) (x ∷ xs))
greatest_there = best_there (λ x y. less_by nat_cmp y x) (λ m n. n ≤ m)
    (λ x y h. not_less x y h) (IsStrictWeakOrder-flip (less_by nat_cmp) number_order)

pub only_least : (xs : List ℕ) (m n : ℕ) → Contains xs m → All (λ x. m ≤ x) xs
    → Contains xs n → All (λ x. n ≤ x) xs → m ≡ n
only_least xs m n in_m all_m in_n all_n =
    le_antisymm (holds_of (λ x. m ≤ x) xs n all_m in_n) (holds_of (λ x. n ≤ x) xs m all_n in_m)

pub only_greatest : (xs : List ℕ) (m n : ℕ) → Contains xs m → All (λ x. x ≤ m) xs
    → Contains xs n → All (λ x. x ≤ n) xs → m ≡ n
only_greatest xs m n in_m all_m in_n all_n =
    le_antisymm (holds_of (λ x. x ≤ n) xs m all_n in_m) (holds_of (λ x. x ≤ m) xs n all_m in_n)
