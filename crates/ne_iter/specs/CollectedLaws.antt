-- Proofs, for the crates of maps and sets, that a collected value is made of all items of its
-- source, and that inserting pairs or items makes the map or set of the old and the new ones.
use Rattle.std.proofs.Common.{◌≡◌, ◌<◌, length, arith, is_some, true≢false, Bool, true, false, cond}
use Rattle.std.proofs.Common.{◌||◌, List, [], ◌∷◌, ◌++◌, reverse, refl, sym, ap, subst, ◌∙◌}
use Rattle.std.proofs.Common.{append_assoc, append-nil, Option, None, Some}
use Rattle.std.proofs.lemmas.List.{reverse-append}
use Rattle.std.proofs.lemmas.Map.Made.{update_all_none, is_some-update_all}
use Rattle.std.proofs.lemmas.Map.Keys.{IsDistinct-head, IsDistinct-tail}
use Rattle.std.proofs.lemmas.Result.{IfOk-weaker}
use Rattle.std.specs.Prelude.{⊤, Result, IfOk}
use Rattle.std.specs.Iterator.{DrainsIf}
use Rattle.std.specs.Cmp.{IsEquivalence}
use Rattle.std.specs.List.{IsDistinct, AllByRecursion, list_any}
use Rattle.std.specs.Map.{keys_of, lookup, update, update_all}
use Rattle.std.specs.Option.{option_or}
use Rattle.std.specs.Set.{is_member}
use Rattle.ne_iter.specs.Collected.{last_value, IsMapOfPairs, IsSetOf}
use Rattle.ne_iter.specs.Keyed.KeyList.{first_seen}
use Rattle.ne_iter.specs.SourceLaws.{some_item}
use Rattle.ne_iter.specs.Sources.{IsNonEmpty, Reads, SameLists}
use mathlib.Core.Path.{fun_ext}

-- A value collected from all items that an iterator yields is made of the items of its source.
module _ {U S V T A : Type 0} {becomes : U → S → Type 0} {steps : S → Option A → S → Type 0}
    {makes : U → V → Type 0} {becomes' : V → T → Type 0} {steps' : T → Option A → T → Type 0} where
  pub collects : SameLists becomes steps makes becomes' steps' → IsNonEmpty becomes' steps'
      → (u : U) (v : V) (it : T) → makes u v → becomes' v it
      → {C E : Type 0} (gives collected : List A → C → Type 0)
      → ((xs : List A) (c : C) → 0 < length xs → gives xs c → collected xs c)
      → (result : Result C E) → IfOk result (λ c. (xs : List A) × DrainsIf steps' ⊤ it xs
      × gives xs c)
      → IfOk result (λ c. (xs : List A) × Reads becomes steps true u xs × collected xs c)
  collects same full u v it m b gives collected made result ran = IfOk-weaker result _ _ (λ c r.
      let read : Reads becomes' steps' true v
      r.0 = record { it = it; made = b; given = (r.1.0, r.1.1, λ _. r.1.2 tt) } in (
        r.0,
        (same u true r.0).1 v m read,
        made r.0 c (some_item becomes' steps' full v r.0 read)
            r.2,
      )) ran

pub lookup-append : {K V : Type 0} (test : K → Bool) (es fs : List (K × V))
    → lookup test (es ++ fs) ≡ option_or (lookup test es) (lookup test fs)
lookup-append test [] fs = refl
lookup-append {K} {V} test (e ∷ es) fs = by (test e.0) (lookup-append test es fs)
  where
    by : (b : Bool) → lookup test (es ++ fs) ≡ option_or (lookup test es) (lookup test fs)
        → cond b (Some e.1) (lookup test (es ++ fs))
        ≡ option_or (cond b (Some e.1) (lookup test es)) (lookup test fs)
    by true h = refl
    by false h = h

pub option_or-none : {V : Type 0} (o : Option V) → option_or o None ≡ o
option_or-none None = refl
option_or-none (Some v) = refl

pub some_member : {K : Type 0} (eq : K → K → Bool) (ks : List K) (q : K)
    → is_member eq ks q ≡ true → 0 < length ks
some_member eq [] q h = absurd (true≢false (sym h))
some_member eq (k ∷ ks) q h = omega arith

module _ {K V : Type 0} {eq : K → K → Bool} (laws : IsEquivalence eq) where
  -- After the inserts, a key has the value of its last pair, or else the value that it had before.
  pub update_all-last_value : (f : K → Option V) (ps : List (K × V)) (q : K)
      → update_all eq f ps q ≡ option_or (last_value eq ps q) (f q)
  update_all-last_value f [] q = refl
  update_all-last_value f (p ∷ ps) q =
      update_all-last_value (update eq f p.0 (Some p.1)) ps q
      ∙ step (last_value eq ps q)
      ∙ ap (λ o. option_or o (f q)) (sym (lookup-append (eq q) (reverse ps) (p ∷ []))
      ∙ ap (lookup (eq q)) (sym (reverse-append (p ∷ []) ps)))
    where
      flip : (b : Bool) → cond b (Some p.1) (f q) ≡ option_or (cond b (Some p.1) None) (f q)
      flip true = refl
      flip false = refl

      step : (o : Option V) → option_or o (update eq f p.0 (Some p.1) q)
          ≡ option_or (option_or o (cond (eq q p.0) (Some p.1) None)) (f q)
      step None = flip (eq p.0 q) ∙ ap (λ b. option_or (cond b (Some p.1) None) (f q))
          (sym (laws.symm q p.0))
      step (Some x) = refl

  update_all-append : (f : K → Option V) (ps qs : List (K × V))
      → update_all eq f (ps ++ qs) ≡ update_all eq (update_all eq f ps) qs
  update_all-append f [] qs = refl
  update_all-append f (p ∷ ps) qs = update_all-append (update eq f p.0 (Some p.1)) ps qs

  -- A map into which pairs are inserted in turn is the map of its entries followed by the pairs.
  last_value-extended : (es ps : List (K × V)) (q : K) → IsDistinct eq (keys_of es)
      → update_all eq (λ k. lookup (eq k) es) ps q ≡ last_value eq (es ++ ps) q
  last_value-extended es ps q d =
      let start : (λ k. lookup (eq k) es) ≡ update_all eq (λ _. None) es =
      fun_ext (λ k. sym (update_all_none laws eq (λ x y. refl) es k d)) in
      ap (λ (f : K → Option V). update_all eq f ps q) start
      ∙ ap (λ (f : K → Option V). f q) (sym (update_all-append (λ _. None) es ps))
      ∙ update_all-last_value (λ _. None) (es ++ ps) q
      ∙ option_or-none (last_value eq (es ++ ps) q)

-- Pairs inserted in turn.
module _ {K V : Type 0} {eq : K → K → Bool} (laws : IsEquivalence eq) (es fs ps : List (K × V))
    (made : (q : K) → lookup (eq q) fs ≡ update_all eq (λ k. lookup (eq k) es) ps q) where
  pub map_of-inserts : IsDistinct eq (keys_of es) → IsDistinct eq (keys_of fs)
      → IsMapOfPairs eq (es ++ ps) fs
  map_of-inserts d e = (e, λ q. made q ∙ last_value-extended laws es ps q d)

  pub nonempty-inserts : 0 < length es → 0 < length fs
  nonempty-inserts some = by es refl
    where
      head_is : (e : K × V) (rest : List (K × V)) → lookup (eq e.0) (e ∷ rest) ≡ Some e.1
      head_is e rest = ap (λ b. cond b (Some e.1) (lookup (eq e.0) rest)) (laws.refl e.0)

      found : (k : K) (v : V) → lookup (eq k) es ≡ Some v → is_some (lookup (eq k) fs) ≡ true
      found k v h = ap is_some (made k) ∙ is_some-update_all laws k (λ j. lookup (eq j) es) ps
          ∙ ap (λ o. is_some o || is_member eq (keys_of ps) k) h

      not_empty : (gs : List (K × V)) (k : K) → is_some (lookup (eq k) gs) ≡ true → 0 < length gs
      not_empty [] k h = absurd (true≢false (sym h))
      not_empty (g ∷ gs) k h = omega arith

      by : (l : List (K × V)) → es ≡ l → 0 < length fs
      by [] h = absurd (omega (arith, some, ap length h))
      by (e ∷ rest) h = not_empty fs e.0
          (found e.0 e.1 (ap (lookup (eq e.0)) h ∙ head_is e rest))

-- Items inserted in turn.
module _ {K : Type 0} {eq : K → K → Bool} (laws : IsEquivalence eq) (ks xs ls : List K)
    (made : (q : K) → is_member eq ls q ≡ (is_member eq ks q || is_member eq xs q)) where
  pub set_of-inserts : IsDistinct eq ls → IsSetOf eq (ks ++ xs) ls
  set_of-inserts d = (d, λ q. made q ∙ sym (members ks (eq q)))
    where
      members : (ks : List K) (t : K → Bool)
          → list_any t (ks ++ xs) ≡ (list_any t ks || list_any t xs)
      members [] t = refl
      members (k ∷ ks) t = by (t k) (members ks t)
        where
          by : (b : Bool) → list_any t (ks ++ xs) ≡ (list_any t ks || list_any t xs)
              → (b || list_any t (ks ++ xs)) ≡ ((b || list_any t ks) || list_any t xs)
          by true h = refl
          by false h = h

  pub nonempty_set-inserts : 0 < length ks → 0 < length ls
  nonempty_set-inserts some = by ks refl
    where
      by : (l : List K) → ks ≡ l → 0 < length ls
      by [] h = absurd (omega (arith, some, ap length h))
      by (k ∷ rest) h = some_member eq ls k (made k
          ∙ ap (λ l. is_member eq l k || is_member eq xs k) h
          ∙ ap (λ b. (b || is_member eq rest k) || is_member eq xs k) (laws.refl k))

-- One pair, or one item.
module _ {K : Type 0} (eq : K → K → Bool) where
  IsDistinct-one : (k : K) → IsDistinct eq (k ∷ [])
  unfolding IsDistinct
  IsDistinct-one k = (tt, tt)

  pub map_of-one : {V : Type 0} (p : K × V) (es : List (K × V)) → es ≡ p ∷ []
      → IsMapOfPairs eq (p ∷ []) es × (0 < length es)
  map_of-one p es is = (
    subst (IsMapOfPairs eq (p ∷ [])) (sym is) (IsDistinct-one p.0, λ q. refl),
    subst (λ l. 0 < length l) (sym is) (omega arith),
  )

  pub set_of-one : (x : K) (ks : List K) → ks ≡ x ∷ []
      → IsSetOf eq (x ∷ []) ks × (0 < length ks)
  set_of-one x ks is = (
    subst (IsSetOf eq (x ∷ [])) (sym is) (IsDistinct-one x, λ q. refl),
    subst (λ l. 0 < length l) (sym is) (omega arith),
  )

list_any-append : {K : Type 0} (t : K → Bool) (xs : List K) (y : K)
    → list_any t (xs ++ y ∷ []) ≡ (t y || list_any t xs)
list_any-append t [] y = refl
list_any-append t (x ∷ xs) y = by (t x) (t y) (list_any t xs) (list_any-append t xs y)
  where
    by : (a b c : Bool) → list_any t (xs ++ y ∷ []) ≡ (b || c)
        → (a || list_any t (xs ++ y ∷ [])) ≡ (b || (a || c))
    by true true c h = refl
    by true false c h = refl
    by false true c h = h
    by false false c h = h

-- One more pair or item.
module _ {K : Type 0} {eq : K → K → Bool} (laws : IsEquivalence eq) where
  pub map_of-more : {V : Type 0} (ps es fs : List (K × V)) (p : K × V)
      → IsDistinct eq (keys_of fs)
      → ((q : K) → lookup (eq q) fs ≡ cond (eq p.0 q) (Some p.1) (lookup (eq q) es))
      → IsMapOfPairs eq ps es → IsMapOfPairs eq (ps ++ p ∷ []) fs
  map_of-more ps es fs p d put h = (
    d,
    λ q. put q ∙ ap (λ b. cond b (Some p.1) (lookup (eq q) es)) (laws.symm p.0 q)
        ∙ ap (cond (eq q p.0) (Some p.1)) (h.1 q)
        ∙ sym (ap (lookup (eq q)) (reverse-append ps (p ∷ []))),
  )

  pub set_of-more : (xs ks ls : List K) (x : K) → IsDistinct eq ls
      → ((q : K) → is_member eq ls q ≡ cond (eq x q) true (is_member eq ks q))
      → IsSetOf eq xs ks → IsSetOf eq (xs ++ x ∷ []) ls
  set_of-more xs ks ls x d put h = (
    d,
    λ q. put q ∙ step (eq x q) (is_member eq ks q)
        ∙ ap (λ b. b || is_member eq ks q) (laws.symm x q)
        ∙ ap (λ b. eq q x || b) (h.1 q) ∙ sym (list_any-append (eq q) xs x),
  )
    where
      step : (b c : Bool) → cond b true c ≡ (b || c)
      step true c = refl
      step false c = refl

-- The key list.
module _ {K : Type 0} {eq : K → K → Bool} (laws : IsEquivalence eq) where
  -- If keys differ, none of them is among those before it.
  absent_before : (before ks : List K) (k : K) → IsDistinct eq (before ++ k ∷ ks)
      → is_member eq before k ≡ false
  absent_before [] ks k d = refl
  absent_before (b ∷ bs) ks k d =
      let apart : eq k b ≡ false = laws.symm k b
      ∙ apart_from_all bs (IsDistinct-head eq b (bs ++ k ∷ ks) d) in
      rw apart (absent_before bs ks k (IsDistinct-tail eq b (bs ++ k ∷ ks) d))
    where
      apart_from_all : (cs : List K) → AllByRecursion (λ y. eq b y ≡ false) (cs ++ k ∷ ks)
          → eq b k ≡ false
      apart_from_all [] h = h.0
      apart_from_all (c ∷ cs) h = apart_from_all cs h.1

  -- keys that differ are their own key list.
  pub first_seen-distinct : (before ks xs : List K) → IsDistinct eq (before ++ ks)
      → first_seen eq before (ks ++ xs) ≡ ks ++ first_seen eq (before ++ ks) xs
  first_seen-distinct before [] xs d = ap (λ l. first_seen eq l xs) (sym (append-nil before))
  first_seen-distinct before (k ∷ ks) xs d =
      let e : (before ++ k ∷ []) ++ ks ≡ before ++ k ∷ ks = append_assoc before (k ∷ []) ks in
      rw (absent_before before ks k d) (ap (λ l. k ∷ l)
      (first_seen-distinct (before ++ k ∷ []) ks xs (subst (IsDistinct eq) (sym e) d)
      ∙ ap (λ l. ks ++ first_seen eq l xs) e))
