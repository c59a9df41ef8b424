-- What an index map holds after a value is written at the index of a key, old or new.
use Rattle.std.proofs.Common.{◌≡◌, ◌+◌, Bool, true, false, cond, not, List, [], ◌∷◌, Option, Some}
use Rattle.std.proofs.Common.{if◌then◌else◌, refl, sym, ap, ◌∙◌, slice_get, position, suc, arith}
use Rattle.std.proofs.Common.{ℕ, None, is_some, true≢false, unwrap_or}
use Rattle.std.specs.Cmp.{IsEquivalence}
use Rattle.std.specs.List.{position_or_len}
use Rattle.std.specs.Map.{keys_of, values_of, lookup, IsKeyTest, KeepsOthers}
use Rattle.indexmap.specs.IndexMap.{IndexMap, insert_entry, Updates}
use Rattle.indexmap.specs.Layout.{set_value_at}
use Rattle.indexmap.proofs.MapLemmas.{Found-position, insert_entry-first}
use Rattle.ne_index.specs.Puts.{put_entry}
use Rattle.ne_index.proofs.Put.{put_entry-insert}

module _ {K V : Type 0} {eq : K → K → Bool} (laws : IsEquivalence eq) (k : K) (w : V) where
  lookup-put : (u : K → Bool) → IsKeyTest eq u → (es : List (K × V))
      → lookup u (put_entry eq es k w) ≡ cond (u k) (Some w) (lookup u es)
  lookup-put u test [] = refl
  lookup-put u test (e ∷ es) = by (eq k e.0) (u k) (u e.0) refl refl refl (lookup-put u test es)
    where
      by : (a b c : Bool) → eq k e.0 ≡ a → u k ≡ b → u e.0 ≡ c
          → lookup u (put_entry eq es k w) ≡ cond b (Some w) (lookup u es)
          → lookup u (if a then (e.0, w) ∷ es else e ∷ put_entry eq es k w)
          ≡ cond b (Some w) (cond c (Some e.1) (lookup u es))
      by true true true h i j r = ap (λ x. cond x (Some w) (lookup u es)) j
      by true true false h i j r = absurd (true≢false (sym (test k e.0 i ∙ h) ∙ j))
      by true false true h i j r =
          absurd (true≢false (sym (test e.0 k j ∙ laws.symm e.0 k ∙ h) ∙ i))
      by true false false h i j r = ap (λ x. cond x (Some w) (lookup u es)) j
      by false true true h i j r = absurd (true≢false (sym j ∙ test k e.0 i ∙ h))
      by false true false h i j r =
          ap (λ x. cond x (Some e.1) (lookup u (put_entry eq es k w))) j ∙ r
      by false false true h i j r =
          ap (λ x. cond x (Some e.1) (lookup u (put_entry eq es k w))) j
      by false false false h i j r =
          ap (λ x. cond x (Some e.1) (lookup u (put_entry eq es k w))) j ∙ r

  -- The map has w at k, and the other keys have their values.
  pub put-updates : {S : Type 0} (m n : IndexMap K V S) → n.entries ≡ put_entry eq m.entries k w
      → Updates eq m n k (Some w)
  unfolding KeepsOthers
  put-updates m n is = (
    each,
    found (eq k) (laws.congr k) ∙ ap (λ b. cond b (Some w) (lookup (eq k) m.entries))
        (laws.refl k),
    λ q other. each q ∙ ap (λ b. cond b (Some w) (lookup (eq q) m.entries)) other,
    λ u test apart. found u test ∙ ap (λ b. cond b (Some w) (lookup u m.entries))
        (apart k (laws.refl k)),
  )
    where
      found : (u : K → Bool) → IsKeyTest eq u
          → lookup u n.entries ≡ cond (u k) (Some w) (lookup u m.entries)
      found u test = ap (lookup u) is ∙ lookup-put u test m.entries

      each : (q : K) → lookup (eq q) n.entries ≡ cond (eq k q) (Some w) (lookup (eq q) m.entries)
      each q = found (eq q) (laws.congr q)
          ∙ ap (λ b. cond b (Some w) (lookup (eq q) m.entries)) (laws.symm q k)

module _ {K V : Type 0} (eq : K → K → Bool) (k : K) where
  -- Writing w at the index of a key that is there has the result of `put_entry`.
  pub written-found : (es : List (K × V)) (i : ℕ) → position (eq k) (keys_of es) ≡ Some i
      → (w : V) → set_value_at es i w ≡ put_entry eq es k w
  written-found es i at w =
      sym (insert_entry-first eq k w es i (Found-position (eq k) es i at).first)
      ∙ put_entry-insert eq es k w

  module _ (v : V) where
    -- Writing w at the index of a key that was inserted with v has the result of `put_entry`.
    pub written-inserted : (es : List (K × V)) (w : V)
        → set_value_at (insert_entry eq es k v) (position_or_len (eq k) (keys_of es)) w
        ≡ put_entry eq es k w
    written-inserted [] w = refl
    written-inserted (e ∷ es) w = by (eq k e.0) (written-inserted es w)
      where
        inserted : List (K × V)
        inserted = insert_entry eq es k v

        place : ℕ
        place = position_or_len (eq k) (keys_of es)

        by : (b : Bool) → set_value_at inserted place w ≡ put_entry eq es k w
            → set_value_at (if b then (e.0, v) ∷ es else e ∷ inserted)
            (cond (not b) (1 + place) 0) w
            ≡ (if b then (e.0, w) ∷ es else e ∷ put_entry eq es k w)
        by true r = refl
        by false r = let next : 1 + place ≡ suc place = omega arith in
            ap (λ n. set_value_at (e ∷ inserted) n w) next ∙ ap (λ l. e ∷ l) r

    pub value-inserted : (es : List (K × V))
        → slice_get (values_of (insert_entry eq es k v)) (position_or_len (eq k) (keys_of es))
        ≡ Some v
    value-inserted [] = refl
    value-inserted (e ∷ es) = by (eq k e.0) (value-inserted es)
      where
        inserted : List (K × V)
        inserted = insert_entry eq es k v

        place : ℕ
        place = position_or_len (eq k) (keys_of es)

        by : (b : Bool) → slice_get (values_of inserted) place ≡ Some v
            → slice_get (values_of (if b then (e.0, v) ∷ es else e ∷ inserted))
            (cond (not b) (1 + place) 0) ≡ Some v
        by true r = refl
        by false r = let next : 1 + place ≡ suc place = omega arith in
            ap (λ n. slice_get (e.1 ∷ values_of inserted) n) next ∙ r

  -- A key that was not there has the value v after it is inserted.
  pub value-new : (o : Option V) (v : V) → is_some o ≡ false → Some v ≡ Some (unwrap_or o v)
  value-new None v absent = refl
  value-new (Some x) v absent = absurd (true≢false absent)
