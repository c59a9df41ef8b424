-- A list of pairs: the first that passes a test, one that is written, one that is added, and one
-- that is removed.
use Rattle.std.proofs.Common.{◌≡◌, ℕ, zero, suc, ◌+◌, ◌<◌, Bool, true, false, cond, not, List, []}
use Rattle.std.proofs.Common.{◌∷◌, ◌++◌, length, slice_set, refl, sym, ap, subst, ◌∙◌, arith}
use Rattle.std.proofs.Common.{Option, None, Some, is_some, true≢false, ◌⊎◌, inl, inr, ◌≤◌}
use Rattle.std.specs.Prelude.{nat_lt, get_or, remove, slice_get, unwrap_or, MatchOption}
use Rattle.std.specs.Cmp.{IsEquivalence}
use Rattle.std.specs.List.{find, position, position_or_len, IsDistinct}
use Rattle.std.specs.Map.{keys_of, lookup, remove_entry, set_value}
use Rattle.std.specs.Option.{option_map}
use Rattle.std.proofs.lemmas.Bool.{ltb-false, ltb-true}
use Rattle.std.proofs.lemmas.List.{length-append, map-append}
use Rattle.std.proofs.lemmas.List.Folds.{find_at}
use Rattle.std.proofs.lemmas.Map.{NonePasses, none_passes_from_lookup, lookup-set_value}
use Rattle.std.proofs.lemmas.Map.{keys-set_value, length-set_value, lookup-remove_entry}
use Rattle.std.proofs.lemmas.List.Edits.{length-remove}
use Rattle.std.proofs.lemmas.List.Sorted.{IsPermutation-map, IsPermutation-remove}
use Rattle.std.proofs.lemmas.Map.Keys.{IsDistinct-IsPermutation, IsDistinct-push}
use Rattle.std.proofs.lemmas.Map.Keys.{IsDistinct-tail}
use Rattle.std.proofs.lemmas.Map.Made.{is_some-lookup, IsDistinct-from_count}
use Rattle.std.proofs.lemmas.Option.{get_or_from_slice_get, none-some, slice_get_cases}
use Rattle.std.proofs.lemmas.Option.{slice_get_past}
use Rattle.ne_laws.specs.Maps.{IsNonEmptyMap, Puts, Takes, Writes}

one_more : (n : ℕ) → 1 + n ≡ suc n
one_more n = omega arith

plus_zero : (n : ℕ) → n + 0 ≡ n
plus_zero n = omega arith

some : (n : ℕ) → 0 < n + 1
some n = omega arith

no_both : (m n : ℕ) → m < n → n ≤ m → ⊥
no_both m n below above = omega arith

not_empty : (m n : ℕ) → m + 1 ≡ n → (n ≡ 1 → ⊥) → 0 < n → 0 < m
not_empty zero n is several above = absurd (several (sym is))
not_empty (suc m) n is several above = omega arith

none : {V : Type 0} (o : Option V) → is_some o ≡ false → o ≡ None
none None h = refl
none (Some v) h = absurd (true≢false h)

within_is_some : {A B : Type 0} (es : List (A × B)) (i : ℕ) → nat_lt i (length es) ≡ true
    → is_some (option_map (λ e. e.1) (slice_get es i)) ≡ true
within_is_some {A = A} {B = B} es i within = by (slice_get_cases es i).1
  where
    by : ((x : A × B) × (i < length es) × (slice_get es i ≡ Some x) × (get_or es i x ≡ x))
        ⊎ ((length es ≤ i) × (slice_get es i ≡ None))
        → is_some (option_map (λ e. e.1) (slice_get es i)) ≡ true
    by (inl h) = rw h.2 refl
    by (inr h) = absurd (no_both i (length es) (ltb-true i (length es) within) h.0)

module _ {K V : Type 0} (test : K → Bool) where
  abbrev passes : K × V → Bool
  passes e = test e.0

  looked_up : (es : List (K × V)) → lookup test es ≡ option_map (λ e. e.1) (find passes es)
  looked_up [] = refl
  looked_up (e ∷ es) = by (test e.0) (looked_up es)
    where
      by : (b : Bool) → lookup test es ≡ option_map (λ e. e.1) (find passes es)
          → cond b (Some e.1) (lookup test es)
          ≡ option_map (λ e. e.1) (cond b (Some e) (find passes es))
      by true h = refl
      by false h = h

  written : (es : List (K × V)) (p : K × V) (v : V) → find passes es ≡ Some p
      → slice_set es (position_or_len passes es) (p.0, v) ≡ set_value test es v
  written [] p v h = absurd (none-some p h)
  written (e ∷ es) p v h = by (test e.0) h (written es p v)
    where
      place : ℕ
      place = position_or_len passes es

      by : (b : Bool) → cond b (Some e) (find passes es) ≡ Some p
          → (find passes es ≡ Some p → slice_set es place (p.0, v) ≡ set_value test es v)
          → slice_set (e ∷ es) (cond (not b) (1 + place) 0) (p.0, v)
          ≡ cond b ((e.0, v) ∷ es) (e ∷ set_value test es v)
      by true h later = ap (λ o. ((unwrap_or o e).0, v) ∷ es) (sym h)
      by false h later = ap (λ n. slice_set (e ∷ es) n (p.0, v)) (one_more place)
          ∙ ap (λ l. e ∷ l) (later h)

  without : (es : List (K × V)) (p : K × V) → find passes es ≡ Some p
      → remove es (position_or_len passes es) ≡ remove_entry test es
  without [] p h = absurd (none-some p h)
  without (e ∷ es) p h = by (test e.0) h (without es p)
    where
      place : ℕ
      place = position_or_len passes es

      by : (b : Bool) → cond b (Some e) (find passes es) ≡ Some p
          → (find passes es ≡ Some p → remove es place ≡ remove_entry test es)
          → remove (e ∷ es) (cond (not b) (1 + place) 0) ≡ cond b es (e ∷ remove_entry test es)
      by true h later = refl
      by false h later = ap (remove (e ∷ es)) (one_more place) ∙ ap (λ l. e ∷ l) (later h)

  -- If there is no position, there is no value.
  pub absent : (es : List (K × V)) → position passes es ≡ None → lookup test es ≡ None
  absent es h = looked_up es ∙ ap (option_map (λ e. e.1)) (find_at passes es ∙ by _ refl h)
    where
      place : ℕ
      place = position_or_len passes es

      by : (b : Bool) → nat_lt place (length es) ≡ b → cond b (Some place) None ≡ None
          → slice_get es place ≡ None
      by true past h = absurd (none-some place (sym h))
      by false past h = slice_get_past es place (ltb-false place (length es) past)

  -- There is a position if and only if there is a value.
  pub is_there : (es : List (K × V)) → is_some (position passes es) ≡ is_some (lookup test es)
  is_there es = by _ refl
    where
      place : ℕ
      place = position_or_len passes es

      by : (b : Bool) → nat_lt place (length es) ≡ b
          → is_some (cond b (Some place) None) ≡ is_some (lookup test es)
      by true within = sym (ap is_some (looked_up es
          ∙ ap (option_map (λ e. e.1)) (find_at passes es)) ∙ within_is_some es place within)
      by false past = sym (ap is_some (looked_up es ∙ ap (option_map (λ e. e.1))
          (find_at passes es ∙ slice_get_past es place (ltb-false place (length es) past))))

  -- The pair at the position has the value, writing a value there writes it at the key, and
  -- removing the pair there removes the key.
  pub found : (es : List (K × V)) (i : ℕ) (p : K × V) → position passes es ≡ Some i
      → slice_get es i ≡ Some p
      → (lookup test es ≡ Some p.1)
      × ((v : V) → slice_set es i (p.0, v) ≡ set_value test es v)
      × (remove es i ≡ remove_entry test es)
  found es i p at is = (
    looked_up es ∙ ap (option_map (λ e. e.1)) here,
    λ v. ap (λ n. slice_set es n (p.0, v)) (sym place) ∙ written es p v here,
    ap (remove es) (sym place) ∙ without es p here,
  )
    where
      by : (b : Bool) → cond b (Some (position_or_len passes es)) None ≡ Some i
          → position_or_len passes es ≡ i
      by true h = ap (λ o. unwrap_or o i) h
      by false h = absurd (none-some i h)

      place : position_or_len passes es ≡ i
      place = by _ at

      here : find passes es ≡ Some p
      here = find_at passes es ∙ ap (slice_get es) place ∙ is

module _ {K V : Type 0} {eq : K → K → Bool} (laws : IsEquivalence eq) (k : K) (v : V) where
  pub one_pair : IsNonEmptyMap eq ((k, v) ∷ [])
  one_pair = (IsDistinct-from_count laws (k ∷ []) refl, some 0)

  -- The value of a key that is there is written at the key's position.
  pub written_there : (es at : List (K × V)) (i : ℕ) (p : K × V) (w : V) → at ≡ es
      → Some i ≡ position (λ e. eq k e.0) es → slice_get at i ≡ Some p → w ≡ v → IsNonEmptyMap eq at
      → (Some p.1 ≡ lookup (eq k) es) × Writes eq es k v (slice_set at i (p.0, w))
      × IsNonEmptyMap eq (slice_set at i (p.0, w))
  written_there es at i p w same place is new map =
      subst (λ l. (Some p.1 ≡ lookup (eq k) l) × Writes eq l k v (slice_set at i (p.0, w))
      × IsNonEmptyMap eq (slice_set at i (p.0, w))) same
      (rw new (rw (here.1 v) (sym here.0, writes, is_map)))
    where
      here : (lookup (eq k) at ≡ Some p.1)
          × ((x : V) → slice_set at i (p.0, x) ≡ set_value (eq k) at x)
          × (remove at i ≡ remove_entry (eq k) at)
      here = found (eq k) at i p
          (subst (λ l. position (λ e. eq k e.0) l ≡ Some i) (sym same) (sym place)) is

      len : length (set_value (eq k) at v) ≡ length at
      len = length-set_value (eq k) at v

      puts : Puts eq at k v (set_value (eq k) at v)
      puts = (
        λ q. lookup-set_value laws (eq k) (λ x y. laws.congr k x y) q v at (rw here.0 refl),
        rw here.0 (len ∙ sym (plus_zero (length at))),
      )

      writes : Writes eq at k v (set_value (eq k) at v)
      writes = subst (λ o. MatchOption o (set_value (eq k) at v ≡ at) (λ _. Puts eq at k v
          (set_value (eq k) at v))) (sym here.0) puts

      is_map : IsNonEmptyMap eq (set_value (eq k) at v)
      is_map = (subst (IsDistinct eq) (sym (keys-set_value (eq k) at v)) map.0, rw len map.1)

  behind : (q : K) (es : List (K × V)) → NonePasses (eq k) es
      → lookup (eq q) (es ++ (k, v) ∷ []) ≡ cond (eq k q) (Some v) (lookup (eq q) es)
  behind q [] none = ap (λ b. cond b (Some v) None) (laws.symm q k)
  behind q (e ∷ es) none = by (eq q e.0) refl (behind q es none.1)
    where
      apart : eq q e.0 ≡ true → false ≡ eq k q
      apart same = sym (laws.symm k q ∙ laws.congr q e.0 k same ∙ laws.symm e.0 k ∙ none.0)

      by : (b : Bool) → eq q e.0 ≡ b
          → lookup (eq q) (es ++ (k, v) ∷ []) ≡ cond (eq k q) (Some v) (lookup (eq q) es)
          → cond b (Some e.1) (lookup (eq q) (es ++ (k, v) ∷ []))
          ≡ cond (eq k q) (Some v) (cond b (Some e.1) (lookup (eq q) es))
      by true same later = ap (λ b. cond b (Some v) (Some e.1)) (apart same)
      by false same later = later

  -- A key that is not there is added after the others.
  pub added_last : (es at new : List (K × V)) → at ≡ es → new ≡ at ++ (k, v) ∷ []
      → is_some (lookup (eq k) es) ≡ false → IsNonEmptyMap eq at
      → Puts eq es k v new × IsNonEmptyMap eq new
  added_last es at new same is absent map =
      subst (λ l. Puts eq l k v new × IsNonEmptyMap eq new) same (rw is (puts, is_map))
    where
      absent_here : is_some (lookup (eq k) at) ≡ false
      absent_here = subst (λ l. is_some (lookup (eq k) l) ≡ false) (sym same) absent

      len : length (at ++ (k, v) ∷ []) ≡ length at + 1
      len = length-append at ((k, v) ∷ [])

      puts : Puts eq at k v (at ++ (k, v) ∷ [])
      puts = (
        λ q. behind q at (none_passes_from_lookup (eq k) at (none _ absent_here)),
        rw absent_here len,
      )

      is_map : IsNonEmptyMap eq (at ++ (k, v) ∷ [])
      is_map = (
        subst (IsDistinct eq) (sym (map-append (λ e. e.0) at ((k, v) ∷ [])))
            (IsDistinct-push laws (keys_of at) k map.0
            (sym (is_some-lookup (eq k) at) ∙ absent_here)),
        rw len (some (length at)),
      )

module _ {K V : Type 0} {eq : K → K → Bool} (laws : IsEquivalence eq) (k : K) where
  -- A key that is not there is not taken.
  pub not_taken : (es : List (K × V)) → lookup (eq k) es ≡ None → Takes eq es k None es
  not_taken es absent = ((λ _. inl absent, λ _. refl), refl)

  -- The pair of a key that is there is removed from the key's position, if it is not the only one.
  pub taken_there : (es at new : List (K × V)) (i : ℕ) (p : K × V) → at ≡ es
      → Some i ≡ position (λ e. eq k e.0) es → (length at ≡ 1 → ⊥)
      → slice_get at i ≡ Some p → new ≡ remove at i → IsNonEmptyMap eq at
      → Takes eq es k (Some p.1) new × IsNonEmptyMap eq new
  taken_there es at new i p same place several is removed map =
      subst (λ l. Takes eq l k (Some p.1) new × IsNonEmptyMap eq new) same
      (rw removed (takes, is_map))
    where
      here : (lookup (eq k) at ≡ Some p.1)
          × ((x : V) → slice_set at i (p.0, x) ≡ set_value (eq k) at x)
          × (remove at i ≡ remove_entry (eq k) at)
      here = found (eq k) at i p
          (subst (λ l. position (λ e. eq k e.0) l ≡ Some i) (sym same) (sym place)) is

      within : i < length at
      within = by (slice_get_cases at i).1
        where
          by : ((x : K × V) × (i < length at) × (slice_get at i ≡ Some x) × (get_or at i x ≡ x))
              ⊎ ((length at ≤ i) × (slice_get at i ≡ None)) → i < length at
          by (inl h) = h.1
          by (inr h) = absurd (none-some p (sym h.1 ∙ is))

      len : length (remove at i) + 1 ≡ length at
      len = length-remove at i within

      takes : Takes eq at k (Some p.1) (remove at i)
      takes = (
        (
          λ h. absurd (none-some p.1 (sym h)),
          λ either. absurd (no_other either),
        ),
        (
          here.0,
          (
            λ q. ap (lookup (eq q)) here.2
                ∙ lookup-remove_entry laws (eq k) (λ x y. laws.congr k x y) q at map.0,
            len,
          ),
        ),
      )
        where
          no_other : (lookup (eq k) at ≡ None) ⊎ (length at ≡ 1) → ⊥
          no_other (inl absent) = none-some p.1 (sym absent ∙ here.0)
          no_other (inr one) = several one

      is_map : IsNonEmptyMap eq (remove at i)
      is_map = (
        IsDistinct-tail eq p.0 (keys_of (remove at i))
            (IsDistinct-IsPermutation eq laws.symm (keys_of at) (p.0 ∷ keys_of (remove at i))
            (IsPermutation-map (λ e. e.0) at (p ∷ remove at i)
            (IsPermutation-remove at i p within
            (sym (get_or_from_slice_get at i p p is)))) map.0),
        not_empty (length (remove at i)) (length at) len several map.1,
      )
