-- A sort by a key that depends on only the item: its keys ascend, and ties keep their order.
use Rattle.std.proofs.Common.{sym, subst, ◌∙◌}
use Rattle.std.proofs.lemmas.Cmp.{eq_by_cmp_equiv}
use Rattle.std.proofs.lemmas.Fn.{always_returns_same}
use Rattle.std.proofs.lemmas.List.Elements.{All-head, filter_agree, filter_passes}
use Rattle.std.proofs.lemmas.List.MinMax.{ranks_by}
use Rattle.std.proofs.lemmas.List.Sorted.{sorted_far}
use Rattle.std.specs.Prelude.{◌≡◌, Bool, true, not, ◌&&◌, List, [], ◌∷◌, refl}
use Rattle.std.specs.Borrow.{Bor}
use Rattle.std.specs.Cmp.{IsTotalOrder}
use Rattle.std.specs.Fn.{ComputesKey, Mut}
use Rattle.std.specs.Iterator.{ActsAsAt}
use Rattle.std.specs.List.{All, filter}
use Rattle.std.specs.List.Sorted.{IsSortedByKey, IsStableByKey, IsSortedByKeyClosure}
use Rattle.std.specs.List.Sorted.{IsStableByKeyClosure, ties}
use Rattle.std.specs.Ordering.{eq_by_cmp, is_eq, is_lt, ordering_reverse}
use Rattle.std.specs.declared.cmp.Ordering.{Ordering}
use Rattle.std.specs.declared.cmp.Ordering.TheVariants.{Less, Equal, Greater}
use Rattle.ne_vec.specs.KeyOrder.{KeysAscend, KeepsTies}

tie_back : (o : Ordering)
    → is_eq (ordering_reverse o) ≡ (not (is_lt (ordering_reverse o)) && not (is_lt o))
tie_back Less = refl
tie_back Equal = refl
tie_back Greater = refl

-- Two lists that have only items that pass are equal, if they are equal whenever some item passes.
by_passing : {A : Type 0} (P : A → Type 0) (us vs : List A) → All P us → All P vs
    → ((x : A) → P x → us ≡ vs) → us ≡ vs
by_passing P [] [] a b same = refl
by_passing P (u ∷ us) vs a b same = same u (All-head P u us a)
by_passing P [] (v ∷ vs) a b same = same v (All-head P v vs b)

module _ {A K : Type 0} {cmp : K → K → Ordering} (total : IsTotalOrder cmp) (key : A → K) where
  ascend : (ys : List A) → IsSortedByKey key cmp ys → KeysAscend key cmp ys
  unfolding KeysAscend
  ascend ys up = sorted_far _ (ranks_by total key) ys up

  module _ {eq : K → K → Bool} (equal : (j k : K) → eq j k ≡ eq_by_cmp cmp j k) where
    -- If x has the key k, the items with the key k are those that tie with x.
    ties_at : (k : K) (x : A) → eq (key x) k ≡ true
        → (y : A) → eq (key y) k ≡ ties (λ a b. is_lt (cmp (key a) (key b))) x y
    ties_at k x at y =
        let laws = eq_by_cmp_equiv total in
        equal (key y) k ∙ laws.symm (key y) k
        ∙ sym (laws.congr (key x) k (key y) (sym (equal (key x) k) ∙ at))
        ∙ subst (λ o. is_eq o ≡ (not (is_lt o) && not (is_lt (cmp (key y) (key x)))))
        (sym (total.antisymm (key x) (key y))) (tie_back (cmp (key y) (key x)))

    pub keeps : (xs ys : List A) → IsStableByKey key cmp xs ys → KeepsTies key eq xs ys
    unfolding KeepsTies
    keeps xs ys stable k =
        let test = λ (x : A). eq (key x) k in
        by_passing (λ x. test x ≡ true) (filter test ys) (filter test xs)
        (filter_passes test ys) (filter_passes test xs)
        (λ x at. filter_agree test _ (ties_at k x at) ys ∙ stable x
        ∙ sym (filter_agree test _ (ties_at k x at) xs))

module _ {A K F : Type 0} (calls : Mut F (Bor A × Unit {0}) K) (f : F) where
  pub computes : (h : A → K) → ActsAsAt calls f h → ComputesKey calls h f
  computes h acts = always_returns_same calls (λ a r. r ≡ h a.0.now) f (λ a r g called.
      let m = acts a.0.now r g (record { shown = a.0; shows = refl; called = called }) in
      (m.1, m.0))

  module _ {cmp : K → K → Ordering} (total : IsTotalOrder cmp) (h : A → K)
      (acts : ActsAsAt calls f h) where
    pub keys_ascend : (ys : List A) → IsSortedByKeyClosure calls cmp f ys → KeysAscend h cmp ys
    keys_ascend ys up = ascend total h ys (up h (computes h acts))

    pub keeps_ties : {eq : K → K → Bool} → ((j k : K) → eq j k ≡ eq_by_cmp cmp j k)
        → (xs ys : List A) → IsStableByKeyClosure calls cmp f xs ys → KeepsTies h eq xs ys
    keeps_ties equal xs ys stable = keeps total h equal xs ys (stable h (computes h acts))
