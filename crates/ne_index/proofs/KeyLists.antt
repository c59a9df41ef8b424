-- Keys that are inserted one by one are their key list.
use Rattle.std.proofs.Common.{◌≡◌, Bool, true, false, cond, ◌||◌, List, [], ◌∷◌, ◌++◌, refl, sym}
use Rattle.std.proofs.Common.{ap, subst, ◌∙◌, append_assoc, append-nil, if◌then◌else◌}
use Rattle.std.proofs.lemmas.Map.Keys.{IsDistinct-push}
use Rattle.std.proofs.lemmas.Map.Steps.{list_any_congr}
use Rattle.std.specs.Cmp.{IsEquivalence}
use Rattle.std.specs.List.{IsDistinct, list_any}
use Rattle.std.specs.Set.{is_member}
use Rattle.indexmap.specs.IndexSet.{insert_all, insert_key}
use Rattle.ne_iter.specs.Collected.{IsSetOf}
use Rattle.ne_iter.specs.CollectedLaws.{first_seen-distinct}
use Rattle.ne_iter.specs.Keyed.KeyList.{first_seen, key_list}
use Rattle.ne_index.specs.Puts.{put_item}
use Rattle.ne_index.proofs.Put.{put_item-insert}

or_false : (b : Bool) → (b || false) ≡ b
or_false true = refl
or_false false = refl

one_behind : {X : Type 0} (t : X → Bool) (xs : List X) (y : X)
    → list_any t (xs ++ y ∷ []) ≡ (list_any t xs || t y)
one_behind t [] y = or_false (t y)
one_behind t (x ∷ xs) y = by (t x) (one_behind t xs y)
  where
    by : (b : Bool) → list_any t (xs ++ y ∷ []) ≡ (list_any t xs || t y)
        → (b || list_any t (xs ++ y ∷ [])) ≡ ((b || list_any t xs) || t y)
    by true h = refl
    by false h = h

module _ {K : Type 0} {eq : K → K → Bool} (laws : IsEquivalence eq) where
  -- A key that is already there adds no member.
  again : (before : List K) (k q : K) → is_member eq before k ≡ true
      → (is_member eq before q || eq q k) ≡ is_member eq before q
  again before k q there = by (eq q k) refl
    where
      by : (b : Bool) → eq q k ≡ b → (is_member eq before q || b) ≡ is_member eq before q
      by true e = rw (list_any_congr laws q k before e ∙ there) refl
      by false e = or_false (is_member eq before q)

  -- Keys that are inserted after the keys `ks`. The keys `before` have the same members as `ks`.
  pub first_seen-inserts : (ks xs before : List K)
      → ((q : K) → is_member eq before q ≡ is_member eq ks q)
      → insert_all eq ks xs ≡ ks ++ first_seen eq before xs
  first_seen-inserts ks [] before same = sym (append-nil ks)
  first_seen-inserts ks (x ∷ xs) before same =
      by (is_member eq before x) refl
      (first_seen-inserts (insert_key eq ks x) xs (before ++ x ∷ []))
    where
      by : (b : Bool) → is_member eq before x ≡ b
          → (((q : K) → is_member eq (before ++ x ∷ []) q ≡ is_member eq (insert_key eq ks x) q)
          → insert_all eq (insert_key eq ks x) xs
          ≡ insert_key eq ks x ++ first_seen eq (before ++ x ∷ []) xs)
          → insert_all eq (insert_key eq ks x) xs
          ≡ ks ++ cond b (first_seen eq (before ++ x ∷ []) xs)
          (x ∷ first_seen eq (before ++ x ∷ []) xs)
      by true e rest =
          let stays : insert_key eq ks x ≡ ks =
          ap (λ c. if c then ks else ks ++ x ∷ []) (sym (same x) ∙ e) in
          rest (λ q. one_behind (eq q) before x ∙ again before x q e ∙ same q
          ∙ ap (λ l. is_member eq l q) (sym stays))
          ∙ ap (λ l. l ++ first_seen eq (before ++ x ∷ []) xs) stays
      by false e rest =
          let grows : insert_key eq ks x ≡ ks ++ x ∷ [] =
          ap (λ c. if c then ks else ks ++ x ∷ []) (sym (same x) ∙ e) in
          rest (λ q. one_behind (eq q) before x ∙ ap (λ b. b || eq q x) (same q)
          ∙ sym (one_behind (eq q) ks x) ∙ ap (λ l. is_member eq l q) (sym grows))
          ∙ ap (λ l. l ++ first_seen eq (before ++ x ∷ []) xs) grows
          ∙ append_assoc ks (x ∷ []) (first_seen eq (before ++ x ∷ []) xs)

  -- Distinct keys, with others inserted after them, are the key list of all of them.
  pub key_list-extended : (ks xs : List K) → IsDistinct eq ks
      → insert_all eq ks xs ≡ key_list eq (ks ++ xs)
  key_list-extended ks xs d = first_seen-inserts ks xs ks (λ q. refl)
      ∙ sym (first_seen-distinct laws [] ks xs d)

  -- Keys that are inserted into an empty list are their key list.
  pub key_list-made : (xs : List K) → insert_all eq [] xs ≡ key_list eq xs
  key_list-made xs = first_seen-inserts [] xs [] (λ q. refl)

  -- The members after one key is inserted.
  put_members : (ks : List K) (x q : K)
      → is_member eq (insert_key eq ks x) q ≡ (is_member eq ks q || eq q x)
  put_members ks x q = by (is_member eq ks x) refl
    where
      by : (b : Bool) → is_member eq ks x ≡ b
          → is_member eq (if b then ks else ks ++ x ∷ []) q ≡ (is_member eq ks q || eq q x)
      by true e = sym (again ks x q e)
      by false e = one_behind (eq q) ks x

  put_distinct : (ks : List K) (x : K) → IsDistinct eq ks → IsDistinct eq (insert_key eq ks x)
  put_distinct ks x d = by (is_member eq ks x) refl
    where
      by : (b : Bool) → is_member eq ks x ≡ b → IsDistinct eq (if b then ks else ks ++ x ∷ [])
      by true e = d
      by false e = IsDistinct-push laws ks x d e

  all_members : (ks xs : List K) (q : K)
      → is_member eq (insert_all eq ks xs) q ≡ (is_member eq ks q || is_member eq xs q)
  all_members ks [] q = sym (or_false (is_member eq ks q))
  all_members ks (x ∷ xs) q = all_members (insert_key eq ks x) xs q
      ∙ ap (λ b. b || is_member eq xs q) (put_members ks x q)
      ∙ regroup (is_member eq ks q)
    where
      regroup : (b : Bool)
          → ((b || eq q x) || is_member eq xs q) ≡ (b || (eq q x || is_member eq xs q))
      regroup true = refl
      regroup false = refl

  all_distinct : (ks xs : List K) → IsDistinct eq ks → IsDistinct eq (insert_all eq ks xs)
  all_distinct ks [] d = d
  all_distinct ks (x ∷ xs) d = all_distinct (insert_key eq ks x) xs (put_distinct ks x d)

  none_distinct : IsDistinct eq []
  unfolding IsDistinct
  none_distinct = tt

  -- The key list of items is their set.
  pub key_list-set : (xs : List K) → IsSetOf eq xs (key_list eq xs)
  key_list-set xs = subst (IsSetOf eq xs) (key_list-made xs)
      (all_distinct [] xs none_distinct, λ q. all_members [] xs q)

module _ {K : Type 0} (eq : K → K → Bool) where
  -- The keys first seen in two lists are those of the first, then the new ones of the second.
  first_seen-behind : (before ks more : List K)
      → first_seen eq before (ks ++ more)
      ≡ first_seen eq before ks ++ first_seen eq (before ++ ks) more
  first_seen-behind before [] more =
      ap (λ b. first_seen eq b more) (sym (append-nil before))
  first_seen-behind before (x ∷ ks) more =
      by (is_member eq before x) (first_seen-behind (before ++ x ∷ []) ks more
      ∙ ap (λ b. first_seen eq (before ++ x ∷ []) ks ++ first_seen eq b more)
      (append_assoc before (x ∷ []) ks))
    where
      by : (b : Bool)
          → first_seen eq (before ++ x ∷ []) (ks ++ more)
          ≡ first_seen eq (before ++ x ∷ []) ks ++ first_seen eq (before ++ x ∷ ks) more
          → cond b (first_seen eq (before ++ x ∷ []) (ks ++ more))
          (x ∷ first_seen eq (before ++ x ∷ []) (ks ++ more))
          ≡ cond b (first_seen eq (before ++ x ∷ []) ks)
          (x ∷ first_seen eq (before ++ x ∷ []) ks) ++ first_seen eq (before ++ x ∷ ks) more
      by true h = h
      by false h = ap (λ l. x ∷ l) h

  -- The key list of a list begins with the key list of each prefix.
  pub key_list-prefix : (prefix more : List K)
      → key_list eq (prefix ++ more) ≡ key_list eq prefix ++ first_seen eq prefix more
  key_list-prefix prefix more = first_seen-behind [] prefix more

  joins : (b : Bool) (ks : List K) (k : K)
      → (if b then ks else ks ++ k ∷ []) ≡ ks ++ cond b [] (k ∷ [])
  joins true ks k = sym (append-nil ks)
  joins false ks k = refl

  -- The key list after one more key, if `ks` and `xs` have the same members.
  pub key_list-put : (xs ks : List K) (x : K)
      → ((q : K) → is_member eq ks q ≡ is_member eq xs q) → ks ≡ key_list eq xs
      → put_item eq ks x ≡ key_list eq (xs ++ x ∷ [])
  key_list-put xs ks x same is = sym (put_item-insert eq ks x)
      ∙ joins (is_member eq ks x) ks x
      ∙ ap (λ b. ks ++ cond b [] (x ∷ [])) (same x)
      ∙ ap (λ l. l ++ cond (is_member eq xs x) [] (x ∷ [])) is
      ∙ sym (first_seen-behind [] xs (x ∷ []))
