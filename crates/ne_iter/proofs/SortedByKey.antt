-- The order of items by a key, for the items through a view.
use Rattle.std.proofs.Common.{arith, ap, sym, subst, ◌∙◌}
use Rattle.std.proofs.lemmas.List.{get_or-map, length-map}
use Rattle.std.specs.Prelude.{◌≡◌, ◌<◌, Bool, true, false, List, [], ◌∷◌, refl, map, filter}
use Rattle.std.specs.Prelude.{length, cond, slice_index_or}
use Rattle.std.specs.Ordering.{is_lt}
use Rattle.std.specs.declared.cmp.Ordering.{Ordering}
use Rattle.ne_vec.specs.KeyOrder.{KeysAscend, KeepsTies}

module _ {A B K : Type 0} (of : A → B) (h : B → K) where
  pub ascend_through : (cmp : K → K → Ordering) (ys : List A) → KeysAscend (λ x. h (of x)) cmp ys
      → KeysAscend h cmp (map of ys)
  unfolding KeysAscend
  ascend_through cmp [] up i j d le within = absurd (omega (arith, within))
  ascend_through cmp (y ∷ ys) up i j d le within =
      let zs = y ∷ ys in
      let last : j < length zs = subst (λ n. j < n) (length-map zs of) within in
      let first : i < length zs = omega (arith, le, last) in
      subst (λ x. is_lt (cmp (h x) (h (slice_index_or (map of zs) i d))) ≡ false)
      (sym (get_or-map of zs j y d last))
      (subst (λ x. is_lt (cmp (h (of (slice_index_or zs j y))) (h x)) ≡ false)
      (sym (get_or-map of zs i y d first)) (up i j y le last))

  picked : (b : Bool) (x : A) (us : List B) (vs : List A) → us ≡ map of vs
      → cond b (of x ∷ us) us ≡ map of (cond b (x ∷ vs) vs)
  picked true x us vs same = ap (λ l. of x ∷ l) same
  picked false x us vs same = same

  passing : (p : B → Bool) (xs : List A)
      → filter p (map of xs) ≡ map of (filter (λ x. p (of x)) xs)
  passing p [] = refl
  passing p (x ∷ xs) = picked (p (of x)) x _ _ (passing p xs)

  pub keeps_through : (eq : K → K → Bool) (xs ys : List A) → KeepsTies (λ x. h (of x)) eq xs ys
      → KeepsTies h eq (map of xs) (map of ys)
  unfolding KeepsTies
  keeps_through eq xs ys kept k =
      let p = λ (x : B). eq (h x) k in
      passing p ys ∙ ap (map of) (kept k) ∙ sym (passing p xs)
