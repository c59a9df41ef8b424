-- Inserting one pair or item, as the crate `indexmap` does it.
use Rattle.std.proofs.Common.{◌≡◌, Bool, true, false, cond, not, ◌||◌, List, [], ◌∷◌, ◌++◌}
use Rattle.std.proofs.Common.{if◌then◌else◌, refl, sym, ap, subst, ◌∙◌, Option, None, Some, is_some}
use Rattle.std.proofs.Common.{true≢false, ◌<◌, ℕ, zero, suc, length, slice_get, arith}
use Rattle.std.specs.Prelude.{IfNone, IsSome}
use Rattle.std.specs.Bool.{OnTrue}
use Rattle.std.specs.List.{find, list_any}
use Rattle.std.specs.Map.{keys_of, values_of}
use Rattle.std.specs.Set.{is_member, swap_key}
use Rattle.indexmap.specs.IndexMap.{IndexMap, get, insert_entry, keys}
use Rattle.indexmap.specs.Layout.{set_value_at}
use Rattle.indexmap.specs.IndexSet.{insert_key, replace_key}
use Rattle.ne_index.specs.Puts.{put_entry, put_in_place, put_item}
use Rattle.indexmap.proofs.CallerLemmas.{insert_entry-new, keys-insert_entry-present}

module _ {K : Type 0} (eq : K → K → Bool) where
  module _ {V : Type 0} where
    pub put_entry-insert : (es : List (K × V)) (k : K) (v : V)
        → insert_entry eq es k v ≡ put_entry eq es k v
    put_entry-insert [] k v = refl
    put_entry-insert (e ∷ es) k v =
        ap (λ l. if eq k e.0 then (e.0, v) ∷ es else e ∷ l) (put_entry-insert es k v)

  pub put_item-insert : (xs : List K) (x : K) → insert_key eq xs x ≡ put_item eq xs x
  put_item-insert [] x = refl
  put_item-insert (y ∷ ys) x = by (eq x y) (is_member eq ys x) (put_item-insert ys x)
    where
      by : (b c : Bool) → (if c then ys else ys ++ x ∷ []) ≡ put_item eq ys x
          → (if b || c then y ∷ ys else y ∷ ys ++ x ∷ [])
          ≡ (if b then y ∷ ys else y ∷ put_item eq ys x)
      by true c h = refl
      by false true h = ap (λ l. y ∷ l) h
      by false false h = ap (λ l. y ∷ l) h

  pub put_in_place-replace : (xs : List K) (x : K) → replace_key eq xs x ≡ put_in_place eq xs x
  put_in_place-replace [] x = refl
  put_in_place-replace (y ∷ ys) x = by (eq x y) (is_member eq ys x) (put_in_place-replace ys x)
    where
      by : (b c : Bool)
          → (if c then swap_key (eq x) ys x else ys ++ x ∷ []) ≡ put_in_place eq ys x
          → (if b || c then cond b (x ∷ ys) (y ∷ swap_key (eq x) ys x) else y ∷ ys ++ x ∷ [])
          ≡ (if b then x ∷ ys else y ∷ put_in_place eq ys x)
      by true c h = refl
      by false true h = ap (λ l. y ∷ l) h
      by false false h = ap (λ l. y ∷ l) h

  -- The old value that is returned says whether the key was already there.
  module _ {V S : Type 0} (m : IndexMap K V S) (k : K) (v : V) (old : Option V)
      (es : List (K × V)) where
    pub new-last : old ≡ get eq m k → es ≡ insert_entry eq m.entries k v
        → IfNone old (es ≡ m.entries ++ (k, v) ∷ [])
    new-last is made = by old is
      where
        by : (o : Option V) → o ≡ get eq m k → IfNone o (es ≡ m.entries ++ (k, v) ∷ [])
        by None absent = made ∙ insert_entry-new eq m k v (sym absent)
        by (Some w) there = tt

    pub keys-stay : old ≡ get eq m k → es ≡ insert_entry eq m.entries k v → IsSome old
        → keys_of es ≡ keys m
    keys-stay is made there = ap keys_of made
        ∙ keys-insert_entry-present eq m k v (subst IsSome is there)

  found_there : (test : K → Bool) (xs : List K) → is_some (find test xs) ≡ list_any test xs
  found_there test [] = refl
  found_there test (y ∷ ys) = by (test y) (found_there test ys)
    where
      by : (b : Bool) → is_some (find test ys) ≡ list_any test ys
          → is_some (cond b (Some y) (find test ys)) ≡ (b || list_any test ys)
      by true h = refl
      by false h = h

  -- If `added` says that the item is new, it is the last one.
  pub item-last : (xs : List K) (x : K) (added : Bool) (ys : List K)
      → added ≡ not (is_member eq xs x) → ys ≡ (if is_member eq xs x then xs else xs ++ x ∷ [])
      → OnTrue added (ys ≡ xs ++ x ∷ [])
  item-last xs x added ys is made = by (is_member eq xs x) added is made
    where
      by : (b a : Bool) → a ≡ not b → ys ≡ (if b then xs else xs ++ x ∷ [])
          → OnTrue a (ys ≡ xs ++ x ∷ [])
      by b false is made = tt
      by true true is made = absurd (true≢false is)
      by false true is made = made

  -- If no old item is returned, the new item is the last one.
  pub replaced-last : (xs : List K) (x : K) (old : Option K) (ys : List K)
      → old ≡ find (eq x) xs → ys ≡ replace_key eq xs x → IfNone old (ys ≡ xs ++ x ∷ [])
  replaced-last xs x old ys is made = by old is
    where
      by : (o : Option K) → o ≡ find (eq x) xs → IfNone o (ys ≡ xs ++ x ∷ [])
      by None absent = made ∙ ap (λ b. if b then swap_key (eq x) xs x else xs ++ x ∷ [])
          (sym (found_there (eq x) xs) ∙ ap is_some (sym absent))
      by (Some w) there = tt

-- The value that is written at an index is the one at that index.
pub value-set_value_at : {K V : Type 0} (es : List (K × V)) (i : ℕ) (w : V) → i < length es
    → slice_get (values_of (set_value_at es i w)) i ≡ Some w
value-set_value_at [] i w within = absurd (omega arith)
value-set_value_at (e ∷ es) zero w within = refl
value-set_value_at (e ∷ es) (suc i) w within = value-set_value_at es i w (omega arith)
