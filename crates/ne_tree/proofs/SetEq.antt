-- Two sets in ascending order are equal item by item if and only if they have the same items.
use Rattle.std.proofs.Common.{◌≡◌, Bool, true, false, ◌&&◌, ◌||◌, List, [], ◌∷◌, refl, sym, ap, ◌∙◌}
use Rattle.std.proofs.Common.{true≢false, ◌↔◌, IsTrue}
use Rattle.std.specs.Cmp.{IsTotalOrder, tied_itself}
use Rattle.std.specs.Cmp.Lexicographic.{pointwise}
use Rattle.std.specs.List.{list_any, AllByRecursion}
use Rattle.std.specs.List.Sorted.{IsStrictlySortedBy}
use Rattle.std.specs.BTreeMap.{is_at}
use Rattle.std.specs.Ordering.{is_eq, ordering_reverse, eq_by_cmp}
use Rattle.std.specs.declared.cmp.Ordering.{Ordering}
use Rattle.std.specs.declared.cmp.Ordering.TheVariants.{Less, Equal, Greater}
use Rattle.std.proofs.lemmas.Map.Keys.{sorted_head, sorted_tail}

module _ {K : Type 0} {eq : K → K → Bool}
    {cmp : K → K → Ordering} (o : IsTotalOrder cmp)
    (same : (a b : K) → eq a b ≡ eq_by_cmp cmp a b) where
  abbrev has : List K → K → Bool
  has xs q = list_any (is_at (cmp q)) xs

  -- An item that is not greater than the first item is none of the later ones.
  not_later : (q x : K) (xs : List K) → ((y : K) → cmp x y ≡ Less → cmp q y ≡ Less)
      → AllByRecursion (λ y. cmp x y ≡ Less) xs → has xs q ≡ false
  not_later q x [] up h = refl
  not_later q x (y ∷ ys) up h = rw (up y h.0) (not_later q x ys up h.1)

  not_later_less : (q x : K) (xs : List K) → IsStrictlySortedBy cmp (x ∷ xs) → cmp q x ≡ Less
      → has xs q ≡ false
  not_later_less q x xs s l = not_later q x xs (λ y h. o.trans q x y l h) (sorted_head cmp x xs s)

  not_later_equal : (q x : K) (xs : List K) → IsStrictlySortedBy cmp (x ∷ xs) → cmp q x ≡ Equal
      → has xs q ≡ false
  not_later_equal q x xs s e = not_later q x xs (λ y h. o.congr q x y e
      ∙ h) (sorted_head cmp x xs s)

  -- A list holds its first item.
  first_has : (x : K) (xs : List K) → has (x ∷ xs) x ≡ true
  first_has x xs = ap (λ r. is_eq r || has xs x) (tied_itself o x)

  -- Equal items compare alike with any other item.
  alike : (q x y : K) → cmp x y ≡ Equal → cmp q x ≡ cmp q y
  alike q x y e = o.antisymm q x ∙ ap ordering_reverse (o.congr x y q e) ∙ sym (o.antisymm q y)

  lacks_less : (x y : K) (ys : List K) → IsStrictlySortedBy cmp (y ∷ ys) → cmp x y ≡ Less
      → has (y ∷ ys) x ≡ false
  lacks_less x y ys s l = rw l (not_later_less x y ys s l)

  tails : (x y : K) (xs ys : List K) → IsStrictlySortedBy cmp (x ∷ xs)
      → IsStrictlySortedBy cmp (y ∷ ys) → cmp x y ≡ Equal
      → ((q : K) → has (x ∷ xs) q ≡ has (y ∷ ys) q) → (q : K) → has xs q ≡ has ys q
  tails x y xs ys s t e h q = by (cmp q x) refl
    where
      to_y : cmp q x ≡ cmp q y
      to_y = alike q x y e

      rest : (r : Ordering) → is_eq r ≡ false → cmp q x ≡ r → has xs q ≡ has ys q
      rest r f p = ap (λ b. b || has xs q) (sym f ∙ ap is_eq (sym p)) ∙ h q
          ∙ ap (λ b. b || has ys q) (ap is_eq (sym to_y ∙ p) ∙ f)

      by : (r : Ordering) → cmp q x ≡ r → has xs q ≡ has ys q
      by Equal p = not_later_equal q x xs s p ∙ sym (not_later_equal q y ys t (sym to_y ∙ p))
      by Less p = rest Less refl p
      by Greater p = rest Greater refl p

  pub equal_from_same : (xs ys : List K) → IsStrictlySortedBy cmp xs → IsStrictlySortedBy cmp ys
      → ((q : K) → has xs q ≡ has ys q) → pointwise eq xs ys ≡ true
  equal_from_same [] [] s t h = refl
  equal_from_same [] (y ∷ ys) s t h = absurd (true≢false (sym (first_has y ys) ∙ sym (h y)))
  equal_from_same (x ∷ xs) [] s t h = absurd (true≢false (sym (first_has x xs) ∙ h x))
  equal_from_same (x ∷ xs) (y ∷ ys) s t h =
      by (cmp x y) refl (λ e.
      equal_from_same xs ys (sorted_tail cmp x xs s) (sorted_tail cmp y ys t)
      (tails x y xs ys s t e h))
    where
      by : (r : Ordering) → cmp x y ≡ r → (cmp x y ≡ Equal → pointwise eq xs ys ≡ true)
          → (eq x y && pointwise eq xs ys) ≡ true
      by Less p rest = absurd (true≢false (sym (first_has x xs) ∙ h x ∙ lacks_less x y ys t p))
      by Greater p rest =
          absurd (true≢false (sym (first_has y ys) ∙ sym (h y)
          ∙ lacks_less y x xs s (o.antisymm y x ∙ ap ordering_reverse p)))
      by Equal p rest = rw (same x y ∙ ap is_eq p) (rest p)

  pub same_from_equal : (xs ys : List K) → pointwise eq xs ys ≡ true → (q : K) → has xs q ≡ has ys q
  same_from_equal [] [] h q = refl
  same_from_equal [] (y ∷ ys) h q = absurd (true≢false (sym h))
  same_from_equal (x ∷ xs) [] h q = absurd (true≢false (sym h))
  same_from_equal (x ∷ xs) (y ∷ ys) h q = by (eq x y) refl h (λ r. same_from_equal xs ys r q)
    where
      by : (b : Bool) → eq x y ≡ b → (b && pointwise eq xs ys) ≡ true
          → (pointwise eq xs ys ≡ true → has xs q ≡ has ys q) → has (x ∷ xs) q ≡ has (y ∷ ys) q
      by false e p rest = absurd (true≢false (sym p))
      by true e p rest =
          rw (ap is_eq (alike q x y (is_equal (cmp x y) (sym (same x y) ∙ e)))) (ap (λ b.
          is_eq (cmp q y) || b) (rest p))
        where
          is_equal : (r : Ordering) → is_eq r ≡ true → r ≡ Equal
          is_equal Equal f = refl
          is_equal Less f = absurd (true≢false (sym f))
          is_equal Greater f = absurd (true≢false (sym f))

  pub equal_iff_same : (xs ys : List K) → IsStrictlySortedBy cmp xs → IsStrictlySortedBy cmp ys
      → (r : Bool) → r ≡ pointwise eq xs ys → IsTrue r ↔ ((q : K) → has xs q ≡ has ys q)
  equal_iff_same xs ys s t r e = (
    λ p. same_from_equal xs ys (sym e ∙ p),
    λ h. e
        ∙ equal_from_same xs ys s t h,
  )
