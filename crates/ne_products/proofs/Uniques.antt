-- What an insertion says about the items so far, and what they say about the source's list.
use Rattle.std.proofs.Common.{rules, ap, append-nil, append_assoc, subst, sym, true≢false, ◌∙◌}
use Rattle.std.proofs.lemmas.List.Folds.{list_any-append}
use Rattle.std.proofs.lemmas.Map.Keys.{IsDistinct-head, IsDistinct-tail}
use Rattle.std.specs.Cmp.{IsEquivalence}
use Rattle.std.specs.Iterator.{Yields}
use Rattle.std.specs.List.{AllByRecursion, IsDistinct}
use Rattle.std.specs.Prelude.{◌≡◌, ◌↔◌, refl, Bool, true, false, not, cond, List, [], ◌∷◌, ◌++◌}
use Rattle.std.specs.Prelude.{◌||◌, ◌&&◌, IsTrue, Option, Some}
use Rattle.std.specs.Set.{is_member}
use Rattle.ne_vec.specs.Lists.{Lists, EachList}
use Rattle.ne_vec.specs.ListLaws.{triggered}
use Rattle.ne_iter.specs.Sources.{ReadsList, Reads}
use Rattle.ne_products.specs.Unique.{are_unique, ChecksDistinct, ChecksUnique}
use Rattle.ne_iter.specs.LoopLaws.{Yields-append, lists_read}

pub was_there : (b n : Bool) → n ≡ not b → n ≡ false → b ≡ true
was_there true n e f = refl
was_there false n e f = let h = sym e ∙ f in search rules

pub was_not : (b n : Bool) → n ≡ not b → n ≡ true → b ≡ false
was_not false n e f = refl
was_not true n e f = let h = sym e ∙ f in search rules

put : (a b m : Bool) → a ≡ b → cond a true m ≡ (m || (b || false))
put true b true e = refl
put true b false e = rw (sym e) refl
put false b true e = refl
put false b false e = rw (sym e) refl

pub Reads-up_to : {U S A : Type 0} {becomes : U → S → Type 0} {steps : S → Option A → S → Type 0}
    {source : U} (it : S) (xs : List A) (t : S) (x : A) (u : S) → becomes source it
    → Yields steps it xs t → steps t (Some x) u → Reads becomes steps false source (xs ++ x ∷ [])
Reads-up_to {steps = steps} it xs t x u made run last =
    record {
      it = it;
      made = made;
      given = (
        u,
        Yields-append steps xs (x ∷ []) it t u run (u, last, refl),
        λ w. absurd (true≢false (sym w)),
      );
    }

or_false : (a b : Bool) → (a || b) ≡ false → (a ≡ false) × (b ≡ false)
or_false true b h = let h = h in search rules
or_false false b h = (refl, h)

and_true : (a b : Bool) → (not a && b) ≡ true → (a ≡ false) × (b ≡ true)
and_true true b h = let h = h in search rules
and_true false b h = (refl, h)

module _ {K : Type 0} (eq : K → K → Bool) where
  none_after : (x : K) (ys : List K) → is_member eq ys x ≡ false
      → AllByRecursion (λ y. eq x y ≡ false) ys
  none_after x [] h = tt
  none_after x (y ∷ ys) h = let b = or_false (eq x y) _ h in (b.0, none_after x ys b.1)

  not_after : (x : K) (ys : List K) → AllByRecursion (λ y. eq x y ≡ false) ys
      → is_member eq ys x ≡ false
  not_after x [] h = refl
  not_after x (y ∷ ys) h = rw h.0 (not_after x ys h.1)

  distinct_from : (xs : List K) → are_unique eq xs ≡ true → IsDistinct eq xs
  unfolding IsDistinct
  distinct_from [] h = tt
  distinct_from (x ∷ xs) h =
      let b = and_true _ _ h in (none_after x xs b.0, distinct_from xs b.1)

  unique_from : (xs : List K) → IsDistinct eq xs → are_unique eq xs ≡ true
  unfolding IsDistinct
  unique_from [] d = refl
  unique_from (x ∷ xs) d = rw (not_after x xs d.0) (unique_from xs d.1)

  computed : (xs : List K) (unique : Bool) → IsTrue unique ↔ IsDistinct eq xs
      → unique ≡ are_unique eq xs
  computed xs true h = sym (unique_from xs (h.0 (search rules)))
  computed xs false h = at (are_unique eq xs) refl
    where
      at : (b : Bool) → are_unique eq xs ≡ b → false ≡ b
      at true all = let no = h.1 (distinct_from xs all) in search rules
      at false some = refl

module _ {K : Type 0} {eq : K → K → Bool} (laws : IsEquivalence eq) where
  pub is_member-push : (xs : List K) (x q : K) (m : Bool) → m ≡ is_member eq xs q
      → cond (eq x q) true m ≡ is_member eq (xs ++ x ∷ []) q
  is_member-push xs x q m e = put (eq x q) (eq q x) m (laws.symm x q)
      ∙ rw e (sym (list_any-append (eq q) xs (x ∷ [])))

  apart : (x : K) (cs ks : List K) (k : K) → AllByRecursion (λ y. eq x y ≡ false) (cs ++ k ∷ ks)
      → eq x k ≡ false
  apart x [] ks k h = h.0
  apart x (c ∷ cs) ks k h = apart x cs ks k h.1

  -- If keys are distinct, none of them is among those before it.
  absent : (before ks : List K) (k : K) → IsDistinct eq (before ++ k ∷ ks)
      → is_member eq before k ≡ false
  absent [] ks k d = refl
  absent (b ∷ bs) ks k d =
      let first : eq k b ≡ false = laws.symm k b
      ∙ apart b bs ks k (IsDistinct-head eq b (bs ++ k ∷ ks) d) in
      rw first (absent bs ks k (IsDistinct-tail eq b (bs ++ k ∷ ks) d))

  checks_list : {U : Type 0} (reads : Bool → U → List K → Type 0) (source : U) (unique : Bool)
      (xs : List K) → ChecksUnique reads eq source unique → ReadsList reads source xs
      → IsTrue unique ↔ IsDistinct eq xs
  checks_list reads source true xs told list =
      let f = list true told.0 told.2 in
      let all : xs ≡ told.0 = f.1 ∙ ap (λ l. told.0 ++ l) (f.2 refl) ∙ append-nil told.0 in
      ((λ _. subst (IsDistinct eq) (sym all) told.1), λ _. search rules)
  checks_list reads source false xs told list =
      let us = told.0 in
      let x = told.2.0 in
      let f = list false (us ++ x ∷ []) told.2.1 in
      let all = f.1 ∙ append_assoc us (x ∷ []) f.0 in (
        (λ no. let no = no in search rules),
        λ distinct. absurd (true≢false (sym told.2.2
            ∙ absent us f.0 x (subst (IsDistinct eq) all distinct))),
      )

  pub checks_lists : {U S : Type 0} (becomes : U → S → Type 0) (steps : S → Option K → S → Type 0)
      (source : U) (unique : Bool) → ChecksUnique (Reads becomes steps) eq source unique
      → EachList (Lists becomes steps (λ x. x)) source (λ xs. ChecksDistinct eq xs unique)
  checks_lists becomes steps source unique told xs lists =
      let list = lists_read becomes steps source xs lists in
      let distinct = checks_list (Reads becomes steps) source unique xs told list in
      (triggered source xs, (distinct, computed eq xs unique distinct))
