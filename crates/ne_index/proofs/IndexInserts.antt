-- What an index map or set holds after pairs or items are inserted, one or many.
use Rattle.indexmap.specs.IndexSet as set
use Rattle.std.proofs.Common.{◌≡◌, ◌<◌, Bool, List, [], ◌∷◌, ◌++◌, length, refl, sym, ap, subst}
use Rattle.std.proofs.Common.{◌∙◌, arith, is_some, length-append}
use Rattle.std.proofs.lemmas.Map.Entries.{length-keys_of}
use Rattle.std.proofs.lemmas.Map.Made.{is_some-lookup, is_some-update_all}
use Rattle.std.specs.Cmp.{IsEquivalence}
use Rattle.std.specs.Map.{keys_of}
use Rattle.std.specs.Prelude.{Some, None, true}
use Rattle.std.specs.Set.{is_member}
use Rattle.indexmap.specs.IndexMap.{IndexMap, Extends, IsFromIterResult, IsUnique, Updates}
use Rattle.indexmap.specs.IndexMap.{index_map_len, insert_all}
use Rattle.indexmap.specs.IndexSet.{IndexSet, index_set_len}
use Rattle.ne_iter.specs.Collected.{last_value, IsMapOfPairs}
use Rattle.ne_iter.specs.CollectedLaws.{map_of-inserts, map_of-more, option_or-none}
use Rattle.ne_iter.specs.CollectedLaws.{update_all-last_value, set_of-inserts, set_of-more}
use Rattle.ne_iter.specs.Keyed.KeyList.{key_list, IsKeyListMapOf}
use Rattle.ne_index.specs.KeyListSets.{IsKeyListSetOf}
use Rattle.ne_index.specs.Puts.{put_item}
use Rattle.ne_index.specs.ValidIndexMap.{IsValid}
use Rattle.ne_index.specs.ValidIndexSet.{IsValid as AreValid}
use mathlib.Core.List.{map-append}
use Rattle.indexmap.proofs.SetLemmas.{keys_insert_all}
use Rattle.ne_index.proofs.KeyLists.{first_seen-inserts, key_list-extended, key_list-made}
use Rattle.ne_index.proofs.KeyLists.{key_list-put}

-- A list is not empty if a prefix of it is not empty.
longer : {K : Type 0} (ks more ls : List K) → ls ≡ ks ++ more → 0 < length ks → 0 < length ls
longer ks more ls is some = omega (arith, some, ap length is, length-append ks more)

-- The key list of a non-empty list is not empty.
some_key : {K : Type 0} (eq : K → K → Bool) (xs : List K) → 0 < length xs
    → 0 < length (key_list eq xs)
some_key eq [] some = absurd (omega (arith, some))
some_key eq (x ∷ xs) some = omega arith

module _ {K V : Type 0} {eq : K → K → Bool} (laws : IsEquivalence eq) where
  -- The keys of a map of pairs are the keys of the pairs.
  same_keys : (pairs es : List (K × V)) → IsMapOfPairs eq pairs es
      → (q : K) → is_member eq (keys_of es) q ≡ is_member eq (keys_of pairs) q
  same_keys pairs es h q = sym (is_some-lookup (eq q) es)
      ∙ ap is_some (h.1 q ∙ sym (option_or-none (last_value eq pairs q))
      ∙ sym (update_all-last_value laws (λ _. None) pairs q))
      ∙ is_some-update_all laws q (λ _. None) pairs

module _ {K V S : Type 0} {eq : K → K → Bool} (laws : IsEquivalence eq) where
  -- `extend` makes the map of the entries followed by the pairs.
  module _ (m n : IndexMap K V S) (pairs : List (K × V)) (made : Extends eq m pairs n) where
    keys_made : keys_of n.entries ≡ set.insert_all eq (keys_of m.entries) (keys_of pairs)
    keys_made = ap keys_of made.0 ∙ keys_insert_all eq m.entries pairs

    pub key_list_map-extends : IsUnique eq m → IsKeyListMapOf eq (m.entries ++ pairs) n.entries
    key_list_map-extends d = (
      keys_made ∙ key_list-extended laws (keys_of m.entries) (keys_of pairs) d
          ∙ ap (key_list eq) (sym (map-append (λ e. e.0) m.entries pairs)),
      map_of-inserts laws m.entries n.entries pairs made.1.0 d made.1.1,
    )

    nonempty-extends : 0 < index_map_len m → 0 < index_map_len n
    nonempty-extends some =
        let keys = longer (keys_of m.entries) _ (keys_of n.entries)
        (keys_made ∙ first_seen-inserts laws (keys_of m.entries) (keys_of pairs)
        (keys_of m.entries) (λ q. refl)) (subst (λ l. 0 < l) (sym (length-keys_of m.entries)) some)
        in subst (λ l. 0 < l) (length-keys_of n.entries) keys

    pub valid-extends : IsValid eq m → IsValid eq n
    valid-extends v = (nonempty-extends v.0, (key_list_map-extends v.1).1.0)

  -- The map that is collected from the pairs, if there is at least one.
  pub key_list_map-made : (pairs : List (K × V)) (n : IndexMap K V S) → 0 < length pairs
      → (n.entries ≡ insert_all eq [] pairs) × IsFromIterResult eq pairs n
      → IsKeyListMapOf eq pairs n.entries × (0 < index_map_len n)
  key_list_map-made pairs n some made =
      let listed : keys_of n.entries ≡ key_list eq (keys_of pairs) =
      ap keys_of made.0 ∙ keys_insert_all eq [] pairs ∙ key_list-made laws (keys_of pairs) in
      let keys = subst (λ l. 0 < length l) (sym listed) (some_key eq (keys_of pairs)
      (subst (λ l. 0 < l) (sym (length-keys_of pairs)) some)) in (
        (
          listed,
          (
            made.1.1,
            λ q. made.1.0 q ∙ update_all-last_value laws (λ _. None) pairs q
                ∙ option_or-none (last_value eq pairs q),
          ),
        ),
        subst (λ l. 0 < l) (length-keys_of n.entries) keys,
      )

  -- The map after one more pair.
  pub key_list_map-put : (pairs : List (K × V)) (m n : IndexMap K V S) (p : K × V) → IsUnique eq n
      → keys_of n.entries ≡ put_item eq (keys_of m.entries) p.0 → Updates eq m n p.0 (Some p.1)
      → IsKeyListMapOf eq pairs m.entries → IsKeyListMapOf eq (pairs ++ p ∷ []) n.entries
  key_list_map-put pairs m n p d put updates h = (
    put ∙ key_list-put eq (keys_of pairs) (keys_of m.entries) p.0
        (same_keys laws pairs m.entries h.1) h.0
        ∙ ap (key_list eq) (sym (map-append (λ e. e.0) pairs (p ∷ []))),
    map_of-more laws pairs m.entries n.entries p d updates.0 h.1,
  )

module _ {K S : Type 0} {eq : K → K → Bool} (laws : IsEquivalence eq) where
  -- `extend` makes the set of the items followed by the new ones.
  module _ (s t : IndexSet K S) (xs : List K) (made : set.Extends eq s xs t) where
    pub key_list_set-extends : set.IsUnique eq s → IsKeyListSetOf eq (s.keys ++ xs) t.keys
    key_list_set-extends d = (
      made.0 ∙ key_list-extended laws s.keys xs d,
      set_of-inserts laws s.keys xs t.keys made.1.0 made.1.1,
    )

    pub valid_set-extends : AreValid eq s → AreValid eq t
    valid_set-extends v = (
      longer s.keys _ t.keys (made.0 ∙ first_seen-inserts laws s.keys xs s.keys (λ q. refl)) v.0,
      (key_list_set-extends v.1).1.0,
    )

  -- The set that is collected from the items, if there is at least one.
  pub key_list_set-made : (xs : List K) (t : IndexSet K S) → 0 < length xs
      → (t.keys ≡ set.insert_all eq [] xs) × set.IsFromIterResult eq xs t
      → IsKeyListSetOf eq xs t.keys × (0 < index_set_len t)
  key_list_set-made xs t some made =
      let listed : t.keys ≡ key_list eq xs = made.0 ∙ key_list-made laws xs in (
        (listed, (made.1.1, made.1.0)),
        subst (λ l. 0 < length l) (sym listed) (some_key eq xs some),
      )

  -- The set after one more item.
  pub key_list_set-put : (xs : List K) (s t : IndexSet K S) (x : K) → set.IsUnique eq t
      → t.keys ≡ put_item eq s.keys x → set.Updates eq s t x true
      → IsKeyListSetOf eq xs s.keys → IsKeyListSetOf eq (xs ++ x ∷ []) t.keys
  key_list_set-put xs s t x d put updates h = (
    put ∙ key_list-put eq xs s.keys x h.1.1 h.0,
    set_of-more laws xs s.keys t.keys x d updates.0 h.1,
  )
