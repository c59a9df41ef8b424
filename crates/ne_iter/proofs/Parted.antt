-- The items that pass a test and the others, so far and of a whole list.
use Rattle.std.proofs.Common.{ap, append-nil, map-id, refl, subst, sym, ◌∙◌}
use Rattle.std.proofs.lemmas.Fn.{FoldsTo-push}
use Rattle.std.proofs.lemmas.List.{map-append}
use Rattle.std.proofs.lemmas.List.Elements.{filter-append}
use Rattle.std.specs.Prelude.{◌≡◌, Bool, true, false, cond, not, List, [], ◌∷◌, ◌++◌, filter, map}
use Rattle.std.specs.Prelude.{Option}
use Rattle.std.specs.Borrow.{Bor}
use Rattle.std.specs.Fn.{CalledAt, Mut}
use Rattle.std.specs.Iterator.{ActsAsAt}
use Rattle.std.specs.List.{FoldsTo}
use Rattle.ne_vec.specs.Lists.{Lists, View, itself}
use Rattle.ne_vec.specs.ListLaws.{triggered}
use Rattle.ne_iter.specs.Calls.{CallsEachAt}
use Rattle.ne_iter.specs.Filter.{IsParted, PartsLists}
use Rattle.ne_iter.specs.Keys.{items_of}
use Rattle.ne_iter.specs.LoopLaws.{reads_through, whole_prefix}
use Rattle.ne_iter.specs.Sources.{Reads}
use Rattle.ne_iter.proofs.Filter.{map_of_filter}
use Rattle.ne_iter.proofs.FunctionCalls.{values_at}
use Rattle.std.proofs.lemmas.Bool.{OnFalse_from}

-- The items whose results pass `on`.
abbrev those : {A : Type 0} → (Bool → Bool) → List (A × Bool) → List A
those on ts = items_of (filter (λ t. on t.1) ts)

those-push : {A : Type 0} (on : Bool → Bool) (ts : List (A × Bool)) (x : A) (b : Bool)
    → those on (ts ++ (x, b) ∷ []) ≡ cond (on b) (those on ts ++ x ∷ []) (those on ts)
those-push {A} on ts x b =
    ap items_of (filter-append (λ t. on t.1) ts ((x, b) ∷ [])) ∙ by (on b)
  where
    by : (c : Bool) → items_of (filter (λ t. on t.1) ts ++ cond c ((x, b) ∷ []) [])
        ≡ cond c (those on ts ++ x ∷ []) (those on ts)
    by true = map-append (λ (t : A × Bool). t.0) (filter (λ t. on t.1) ts) ((x, b) ∷ [])
    by false = ap items_of (append-nil (filter (λ t. on t.1) ts))

-- If the results are those of a test.
those-tested : {A : Type 0} (on : Bool → Bool) (test : A → Bool) (us : List A)
    → those on (map (λ x. (x, test x)) us) ≡ filter (λ x. on (test x)) us
those-tested on test [] = refl
those-tested {A} on test (u ∷ us) = by (on (test u)) (those-tested on test us)
  where
    ts : List (A × Bool)
    ts = map (λ x. (x, test x)) us

    by : (b : Bool) → those on (map (λ x. (x, test x)) us) ≡ filter (λ x. on (test x)) us
        → items_of (cond b ((u, test u) ∷ filter (λ t. on t.1) (map (λ x. (x, test x)) us))
        (filter (λ t. on t.1) (map (λ x. (x, test x)) us)))
        ≡ cond b (u ∷ filter (λ x. on (test x)) us) (filter (λ x. on (test x)) us)
    by true h = ap (λ l. u ∷ l) h
    by false h = h

module _ {A F : Type 0} (calls : Mut F (Bor A × Unit {0}) Bool) (f : F) where
  -- The items xs were tested: ys passed, and ns did not. The closure is then g.
  abbrev pub PartedSoFar : List A → List A → List A → F → Type 0
  PartedSoFar xs ys ns g = (ts : List (A × Bool)) × (items_of ts ≡ xs) × CallsEachAt calls f ts g
      × (ys ≡ those (λ b. b) ts) × (ns ≡ those not ts)

  pub parted_more : (xs ys ns : List A) (g : F) (x : A) (b : Bool) (h : F)
      → PartedSoFar xs ys ns g → CalledAt calls g x b h
      → PartedSoFar (xs ++ x ∷ []) (cond b (ys ++ x ∷ []) ys) (cond b ns (ns ++ x ∷ [])) h
  parted_more xs ys ns g x b h (ts, all, called, passed, others) call = (
    ts ++ (x, b) ∷ [],
    map-append (λ t. t.0) ts ((x, b) ∷ []) ∙ ap (λ l. l ++ x ∷ []) all,
    FoldsTo-push (λ p t q. CalledAt calls p t.0 t.1 q) f ts g (x, b) h called call,
    subst (λ l. cond b (l ++ x ∷ []) l ≡ those (λ c. c) (ts ++ (x, b) ∷ [])) (sym passed)
        (sym (those-push (λ c. c) ts x b)),
    subst (λ l. cond b l (l ++ x ∷ []) ≡ those not (ts ++ (x, b) ∷ [])) (sym others)
        (turned b (those not ts) ∙ sym (those-push not ts x b)),
  )
    where
      turned : (c : Bool) (l : List A) → cond c l (l ++ x ∷ []) ≡ cond (not c) (l ++ x ∷ []) l
      turned true l = refl
      turned false l = refl

  tested_calls : (p : F) (ts : List (A × Bool)) (g : F) → CallsEachAt calls p ts g
      → FoldsTo (λ p x q. (r : Bool) × CalledAt calls p x r q) p (items_of ts) g
  tested_calls p [] g same = same
  tested_calls p (t ∷ ts) g (q, call, rest) = (q, (t.1, call), tested_calls q ts g rest)

  pub parted_calls : (xs ys ns : List A) (g : F) → PartedSoFar xs ys ns g
      → FoldsTo (λ p x q. (r : Bool) × CalledAt calls p x r q) f xs g
  parted_calls xs ys ns g (ts, all, called, passed, others) =
      subst (λ l. FoldsTo (λ p x q. (r : Bool) × CalledAt calls p x r q) f l g) all
      (tested_calls f ts g called)

  module _ {U S : Type 0} (becomes : U → S → Type 0) (steps : S → Option A → S → Type 0) (u : U)
      (ys ns : List A) (parted : IsParted (Reads becomes steps) calls u f ys ns) where
    abbrev us : List A
    us = items_of parted.tested

    tested_are : (test : A → Bool) → ActsAsAt calls f test
        → (ys ≡ filter test us) × (ns ≡ filter (λ x. not (test x)) us)
    tested_are test acts =
        let values = (values_at calls f test parted.tested parted.f_then acts parted.called).0 in (
          parted.passed ∙ ap (those (λ b. b)) values ∙ those-tested (λ b. b) test us,
          parted.others ∙ ap (those not) values ∙ those-tested not test us,
        )

    pub parts_lists : (view : View A)
        → PartsLists calls view (λ view. Lists becomes steps view.of) u f ys ns
    parts_lists view = (
      (λ xs known. (
        triggered u xs,
        λ test acts. subst (λ l. (ys ≡ filter test l) × (ns ≡ filter (λ x. not (test x)) l))
            (sym (map-id us) ∙ whole_prefix xs (map itself.of us)
            (reads_through becomes steps u itself.of xs known true us parted.read))
            (tested_are test acts),
      )),
      OnFalse_from view.is_itself _ (λ _ xs known. (
        triggered u xs,
        λ test acts.
            let are = tested_are (λ x. test (view.of x)) acts in
            subst (λ l. (map view.of ys ≡ filter test l)
            × (map view.of ns ≡ filter (λ x. not (test x)) l))
            (whole_prefix xs (map view.of us)
            (reads_through becomes steps u view.of xs known true us parted.read)) (
              ap (map view.of) are.0 ∙ map_of_filter view.of test us,
              ap (map view.of) are.1 ∙ map_of_filter view.of (λ x. not (test x)) us,
            ),
      )),
    )
