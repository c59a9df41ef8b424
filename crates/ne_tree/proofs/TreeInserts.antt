-- What a tree map or set holds after pairs or items are inserted, one or many.
use Rattle.std.specs.BTreeSet as set
use Rattle.std.proofs.Common.{◌≡◌, Bool, List, [], ◌∷◌, ◌++◌, Some, true, ap, sym, subst, ◌∙◌}
use Rattle.std.specs.Cmp.{IsTotalOrder, eq_by_cmp_equiv}
use Rattle.std.specs.Ordering.{eq_by_cmp}
use Rattle.std.specs.declared.cmp.Ordering.{Ordering}
use Rattle.std.specs.BTreeMap.{BTreeMap, InsertsAll, IsOrdered, Updates, get}
use Rattle.std.specs.Map.{lookup}
use Rattle.std.specs.Set.{is_member}
use Rattle.std.proofs.lemmas.Map.Keys.{IsDistinct-from_sorted}
use Rattle.std.specs.BTreeSet.{BTreeSet, IsOrdered as AreOrdered}
use Rattle.ne_iter.specs.Collected.{IsMapOfPairs, IsSetOf}
use Rattle.ne_iter.specs.CollectedLaws.{map_of-inserts, map_of-more, nonempty-inserts}
use Rattle.ne_iter.specs.CollectedLaws.{set_of-inserts, set_of-more, nonempty_set-inserts}
use Rattle.ne_iter.specs.CollectedLaws.{set_of-one}
use Rattle.std.specs.List.Sorted.{IsStrictlySortedBy}
use Rattle.ne_tree.specs.ValidTreeMap.{IsValid}
use Rattle.ne_tree.specs.ValidTreeSet.{IsValid as AreValid}
use mathlib.Core.Path.{fun_ext}

module _ {K : Type 0} {eq : K → K → Bool} {cmp : K → K → Ordering} (total : IsTotalOrder cmp)
    (same : (a b : K) → eq a b ≡ eq_by_cmp cmp a b) where
  by_cmp : eq_by_cmp cmp ≡ eq
  by_cmp = sym (fun_ext (λ a. fun_ext (λ b. same a b)))

  module _ {V : Type 0} where
    -- Pairs inserted one after the other.
    pub map_of-inserts_all : (m n : BTreeMap K V) (xs : List (K × V)) → InsertsAll cmp m xs n
        → IsOrdered cmp m → IsMapOfPairs eq (m.entries ++ xs) n.entries
    map_of-inserts_all m n xs x o =
        subst (λ (e : K → K → Bool). IsMapOfPairs e (m.entries ++ xs) n.entries) by_cmp
        (map_of-inserts (eq_by_cmp_equiv total) m.entries n.entries xs x.0
        (IsDistinct-from_sorted cmp _ o) (IsDistinct-from_sorted cmp _ x.1))

    -- The map after one more pair.
    pub map_of-put : (xs : List (K × V)) (m n : BTreeMap K V) (p : K × V) → IsOrdered cmp n
        → Updates cmp m n p.0 (Some p.1) → IsMapOfPairs eq xs m.entries
        → IsMapOfPairs eq (xs ++ p ∷ []) n.entries
    map_of-put xs m n p o put h =
        subst (λ (e : K → K → Bool). IsMapOfPairs e (xs ++ p ∷ []) n.entries) by_cmp
        (map_of-more (eq_by_cmp_equiv total) xs m.entries n.entries p
        (IsDistinct-from_sorted cmp _ o) put.0
        (subst (λ (e : K → K → Bool). IsMapOfPairs e xs m.entries) (sym by_cmp) h))

    -- The same pairs make the same map.
    pub one_map : (ps : List (K × V)) (m n : BTreeMap K V) → IsMapOfPairs eq ps m.entries
        → IsMapOfPairs eq ps n.entries → (q : K) → get cmp m q ≡ get cmp n q
    one_map ps m n a b q =
        subst (λ (e : K → K → Bool). lookup (e q) m.entries ≡ lookup (e q) n.entries) (sym by_cmp)
        (a.1 q ∙ sym (b.1 q))

  -- Items inserted one after the other.
  pub set_of-inserts_all : (s t : BTreeSet K) (xs : List K) → set.InsertsAll cmp s xs t
      → IsSetOf eq (s.keys ++ xs) t.keys
  set_of-inserts_all s t xs h =
      subst (λ (e : K → K → Bool). IsSetOf e (s.keys ++ xs) t.keys) by_cmp
      (set_of-inserts (eq_by_cmp_equiv total) s.keys xs t.keys h.0
      (IsDistinct-from_sorted cmp _ h.1))

  -- The set after one more item.
  pub set_of-put : (xs : List K) (s t : BTreeSet K) (x : K) → AreOrdered cmp t
      → set.Updates cmp s t x true → IsSetOf eq xs s.keys
      → IsSetOf eq (xs ++ x ∷ []) t.keys × set.IsFromIterResult cmp (xs ++ x ∷ []) t
  set_of-put xs s t x o put h =
      let more = set_of-more (eq_by_cmp_equiv total) xs s.keys t.keys x
      (IsDistinct-from_sorted cmp _ o) put.0
      (subst (λ (e : K → K → Bool). IsSetOf e xs s.keys) (sym by_cmp) h) in
      (subst (λ (e : K → K → Bool). IsSetOf e (xs ++ x ∷ []) t.keys) by_cmp more, (more.1, o))

  -- The set of one item.
  pub set_from-one : (x : K) (s : BTreeSet K) → s.keys ≡ x ∷ []
      → IsSetOf eq (x ∷ []) s.keys × set.IsFromIterResult cmp (x ∷ []) s
  unfolding IsStrictlySortedBy
  set_from-one x s is = (
    (set_of-one eq x s.keys is).0,
    (
      λ q. ap (λ ks. is_member (eq_by_cmp cmp) ks q) is,
      subst (IsStrictlySortedBy cmp) (sym is) (tt, tt),
    ),
  )

  -- The same items make the same set.
  pub one_set : (xs : List K) (s t : BTreeSet K) → IsSetOf eq xs s.keys → IsSetOf eq xs t.keys
      → set.IsSameSet cmp s t
  one_set xs s t a b q =
      subst (λ (e : K → K → Bool). is_member e s.keys q ≡ is_member e t.keys q) (sym by_cmp)
      (a.1 q ∙ sym (b.1 q))

module _ {K : Type 0} {cmp : K → K → Ordering} (total : IsTotalOrder cmp) where
  -- A map stays valid if pairs are inserted.
  pub valid-inserts_all : {V : Type 0} (m n : BTreeMap K V) (xs : List (K × V))
      → InsertsAll cmp m xs n → IsValid cmp m → IsValid cmp n
  valid-inserts_all m n xs x v = (
    nonempty-inserts (eq_by_cmp_equiv total) m.entries n.entries xs x.0 v.0,
    x.1,
  )

  -- A set stays valid if items are inserted.
  pub valid_set-inserts_all : (s t : BTreeSet K) (xs : List K) → set.InsertsAll cmp s xs t
      → AreValid cmp s → AreValid cmp t
  valid_set-inserts_all s t xs h v = (
    nonempty_set-inserts (eq_by_cmp_equiv total) s.keys xs t.keys h.0 v.0,
    h.1,
  )
