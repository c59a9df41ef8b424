-- The maps and sets of std that are collected from a source that has an item.
use Rattle.std.specs.BTreeMap as tree
use Rattle.std.specs.BTreeSet as tree_set
use Rattle.std.specs.HashMap as hash
use Rattle.std.specs.HashSet as hash_set
use Rattle.std.proofs.Common.{◌≡◌, ◌<◌, ◌||◌, Bool, List, [], ◌∷◌, length, arith, is_some}
use Rattle.std.proofs.Common.{sym, ap, subst, ◌∙◌, None}
use Rattle.std.proofs.lemmas.Map.Entries.{length-keys_of}
use Rattle.std.proofs.lemmas.Map.Keys.{IsDistinct-from_sorted}
use Rattle.std.proofs.lemmas.Map.Made.{is_some-lookup, is_some-update_all}
use Rattle.std.specs.BTreeMap.{BTreeMap, IsOrdered, btree_map_len}
use Rattle.std.specs.BTreeSet.{BTreeSet, btree_set_len}
use Rattle.std.specs.HashMap.{HashMap, hash_map_len}
use Rattle.std.specs.HashSet.{HashSet, hash_set_len}
use Rattle.std.specs.Cmp.{IsEquivalence, IsTotalOrder, eq_by_cmp_equiv}
use Rattle.std.specs.List.{IsDistinct}
use Rattle.std.specs.Map.{keys_of, lookup, update_all}
use Rattle.std.specs.Ordering.{eq_by_cmp}
use Rattle.std.specs.Set.{is_member}
use Rattle.std.specs.declared.cmp.Ordering.{Ordering}
use Rattle.ne_iter.specs.Collected.{last_value, IsMapOfPairs, IsSetOf}
use Rattle.ne_iter.specs.CollectedLaws.{option_or-none, some_member, update_all-last_value}
use mathlib.Core.Path.{fun_ext}

module _ {K : Type 0} {eq : K → K → Bool} (laws : IsEquivalence eq) where
  -- The keys of a list that has an item.
  some_key : (xs ks : List K) → ((q : K) → is_member eq ks q ≡ is_member eq xs q) → 0 < length xs
      → 0 < length ks
  some_key [] ks same some = absurd (omega (arith, some))
  some_key (x ∷ xs) ks same some = some_member eq ks x
      (same x ∙ ap (λ b. b || is_member eq xs x) (laws.refl x))

  module _ {X : Type 0} where
    module _ (ps es : List (K × X)) (made : (q : K)
        → lookup (eq q) es ≡ update_all eq (λ _. None) ps q) where
      map_of-inserts : IsDistinct eq (keys_of es) → IsMapOfPairs eq ps es
      map_of-inserts d = (
        d,
        λ q. made q ∙ update_all-last_value laws (λ _. None) ps q
            ∙ option_or-none (last_value eq ps q),
      )

      some_entry : 0 < length ps → 0 < length es
      some_entry some =
          let same : (q : K) → is_member eq (keys_of es) q ≡ is_member eq (keys_of ps) q = λ q.
          sym (is_some-lookup (eq q) es) ∙ ap is_some (made q)
          ∙ is_some-update_all laws q (λ _. None) ps in
          let keys = some_key (keys_of ps) (keys_of es) same
          (subst (λ n. 0 < n) (sym (length-keys_of ps)) some) in
          subst (λ n. 0 < n) (length-keys_of es) keys

  pub hash_map_made : {X S : Type 0} (ps : List (K × X)) (m : HashMap K X S) → 0 < length ps
      → hash.IsFromIterResult eq ps m → IsMapOfPairs eq ps m.entries × (0 < hash_map_len m)
  hash_map_made ps m some h = (
    map_of-inserts ps m.entries h.0 h.1,
    some_entry ps m.entries h.0 some,
  )

  pub hash_set_made : {S : Type 0} (xs : List K) (s : HashSet K S) → 0 < length xs
      → hash_set.IsFromIterResult eq xs s → IsSetOf eq xs s.keys × (0 < hash_set_len s)
  hash_set_made xs s some h = ((h.1, h.0), some_key xs s.keys h.0 some)

module _ {K : Type 0} {eq : K → K → Bool} {cmp : K → K → Ordering} (total : IsTotalOrder cmp)
    (same : (a b : K) → eq a b ≡ eq_by_cmp cmp a b) where
  by_cmp : eq_by_cmp cmp ≡ eq
  by_cmp = sym (fun_ext (λ a. fun_ext (λ b. same a b)))

  pub tree_map_made : {X : Type 0} (ps : List (K × X)) (m : BTreeMap K X) → 0 < length ps
      → tree.IsFromIterResult cmp ps m → IsMapOfPairs eq ps m.entries × IsOrdered cmp m
      × (0 < btree_map_len m)
  tree_map_made ps m some h =
      let laws = eq_by_cmp_equiv total in
      let is = map_of-inserts laws ps m.entries h.0 (IsDistinct-from_sorted cmp _ h.1) in (
        subst (λ (e : K → K → Bool). IsMapOfPairs e ps m.entries) by_cmp is,
        h.1,
        some_entry laws ps m.entries h.0 some,
      )

  pub tree_set_made : (xs : List K) (s : BTreeSet K) → 0 < length xs
      → tree_set.IsFromIterResult cmp xs s → IsSetOf eq xs s.keys
      × tree_set.IsFromIterResult cmp xs s × (0 < btree_set_len s)
  tree_set_made xs s some h =
      let laws = eq_by_cmp_equiv total in (
        subst (λ (e : K → K → Bool). IsSetOf e xs s.keys) by_cmp
            (IsDistinct-from_sorted cmp _ h.1, h.0),
        h,
        some_key laws xs s.keys h.0 some,
      )
