-- What the turns by key make of the items: after the first, after one more, and of all of them.
use Rattle.std.proofs.Common.{ap, append-nil, append_assoc, refl, subst, sym, ◌∙◌}
use Rattle.std.proofs.lemmas.List.Elements.{filter-append}
use Rattle.std.proofs.lemmas.List.Sums.{fold-append}
use Rattle.std.specs.Prelude.{◌≡◌, Bool, true, false, cond, List, [], ◌∷◌, ◌++◌, Option, Some, None}
use Rattle.std.specs.Prelude.{map}
use Rattle.std.specs.Borrow.{Bor}
use Rattle.std.specs.Cmp.{IsEquivalence}
use Rattle.std.specs.Fn.{CalledAt, Mut, Takes, TakesAt}
use Rattle.std.specs.Iterator.{ActsAsOnTwo, Yields}
use Rattle.std.specs.List.{FoldsTo, filter, fold}
use Rattle.std.specs.Option.{option_map, unwrap_or}
use Rattle.ne_vec.specs.Lists.{View}
use Rattle.ne_iter.specs.KeyedMap.{PutsValue}
use Rattle.ne_iter.specs.LoopLaws.{Yields-first}
use Rattle.ne_products.specs.ByKey.{AddsByCall, AddsLast, CallableByKey, IsFoldedByKey}
use Rattle.ne_products.specs.ByKey.{IsGroupedByKey, KeyTurn, NamesKeys, and_last, fold_some}
use Rattle.ne_products.specs.ByKey.{of_some}
use mathlib.Core.Path.{fun_ext}

-- Items seen through v.
pub fold-viewed : {A B C : Type 0} (f : B → C → B) (v : A → C) (b : B) (ys : List A)
    → fold (λ b x. f b (v x)) b ys ≡ fold f b (map v ys)
fold-viewed f v b [] = refl
fold-viewed f v b (y ∷ ys) = fold-viewed f v (f b (v y)) ys

filter-viewed : {A C : Type 0} (t : C → Bool) (v : A → C) (ys : List A)
    → map v (filter (λ x. t (v x)) ys) ≡ filter t (map v ys)
filter-viewed t v [] = refl
filter-viewed {A} {C} t v (y ∷ ys) = by (t (v y)) (filter-viewed t v ys)
  where
    by : (b : Bool) → map v (filter (λ x. t (v x)) ys) ≡ filter t (map v ys)
        → map v (cond b (y ∷ filter (λ x. t (v x)) ys) (filter (λ x. t (v x)) ys))
        ≡ cond b (v y ∷ filter t (map v ys)) (filter t (map v ys))
    by true h = ap (λ l. v y ∷ l) h
    by false h = h

fold_some-viewed : {A B C : Type 0} (f : B → C → B) (v : A → C) (init : B) (ys : List A)
    → fold_some (λ b x. f b (v x)) init ys ≡ fold_some f init (map v ys)
fold_some-viewed f v init [] = refl
fold_some-viewed f v init (y ∷ ys) = ap Some (fold-viewed f v init (y ∷ ys))

-- One more item at the end.
fold_some-push : {A B : Type 0} (f : B → A → B) (init : B) (ys : List A) (x : A)
    → fold_some f init (ys ++ x ∷ []) ≡ Some (f (unwrap_or (fold_some f init ys) init) x)
fold_some-push f init [] x = refl
fold_some-push f init (y ∷ ys) x = ap Some (fold-append f init (y ∷ ys) (x ∷ []))

module _ {K B : Type 0} {eq : K → K → Bool} (laws : IsEquivalence eq) (init : B) where
  -- The values of the keys after one more item.
  pub folded-more : {A : Type 0} (h : A → K) (f : B → A → B) (xs : List A) (x : A)
      (old new : K → Option B)
      → PutsValue eq old (h x) (f (unwrap_or (old (h x)) init) x) new
      → IsFoldedByKey old eq h f init xs → IsFoldedByKey new eq h f init (xs ++ x ∷ [])
  folded-more {A} h f xs x old new puts folded q =
      puts q ∙ ap (λ b. cond b (Some (f (unwrap_or (old (h x)) init) x)) (old q))
      (laws.symm (h x) q) ∙ by (eq q (h x)) refl
      ∙ ap (fold_some f init) (sym (filter-append test xs (x ∷ [])))
    where
      test : A → Bool
      test y = eq q (h y)

      by : (b : Bool) → eq q (h x) ≡ b
          → cond b (Some (f (unwrap_or (old (h x)) init) x)) (old q)
          ≡ fold_some f init (filter test xs ++ cond b (x ∷ []) [])
      by false apart = folded q ∙ ap (fold_some f init) (sym (append-nil (filter test xs)))
      by true same =
          let tests : (λ y. eq (h x) (h y)) ≡ test
          = fun_ext (λ y. sym (laws.congr q (h x) (h y) same)) in
          ap (λ o. Some (f (unwrap_or o init) x)) (folded (h x)
          ∙ ap (λ (t : A → Bool). fold_some f init (filter t xs)) tests)
          ∙ sym (fold_some-push f init (filter test xs) x)

  pub folded-viewed : {A C : Type 0} (h : C → K) (f : B → C → B) (v : A → C) (ys : List A)
      (value : K → Option B) → IsFoldedByKey value eq (λ x. h (v x)) (λ b x. f b (v x)) init ys
      → IsFoldedByKey value eq h f init (map v ys)
  folded-viewed h f v ys value folded q = folded q
      ∙ fold_some-viewed f v init (filter (λ x. eq q (h (v x))) ys)
      ∙ ap (fold_some f init) (filter-viewed (λ x. eq q (h x)) v ys)

-- The values after the turns over xs, if the closure for keys is a function and so is what adds.
module _ {A K B F G : Type 0} (view : View K) {eq : view.Target → view.Target → Bool}
    (laws : IsEquivalence eq) (init : B) (keys : Mut F (Bor A × Unit {0}) K)
    (adds : G → B → A → B → G → Type 0) (key : F) (g : G) (h : A → view.Target) (f : B → A → B)
    (acts : NamesKeys keys view key h)
    (adding : (b : B) (x : A) (v : B) (g' : G) → adds g b x v g' → (g' ≡ g) × (v ≡ f b x)) where
  pub turns_fold : (done xs : List A) (value end : view.Target → Option B) (key' : F) (g' : G)
      → IsFoldedByKey value eq h f init done
      → FoldsTo (KeyTurn keys adds view eq init) (key, (g, value)) xs (key', (g', end))
      → IsFoldedByKey end eq h f init (done ++ xs)
  turns_fold done [] value end key' g' folded turns =
      subst (λ l. IsFoldedByKey end eq h f init l) (sym (append-nil done))
      (subst (λ (s : F × (G × (view.Target → Option B))). IsFoldedByKey s.1.1 eq h f init done)
      turns folded)
  turns_fold done (x ∷ xs) value end key' g' folded (s, (k, v, called, added, puts), turns) =
      let asked = acts x k s.0 called in
      let made = adding (unwrap_or (value (view.of k)) init) x v s.1.0 added in
      let put = subst (λ k. PutsValue eq value k (f (unwrap_or (value k) init) x) s.1.1) asked.1
      (subst (λ v. PutsValue eq value (view.of k) v s.1.1) made.1 puts) in
      let rest = subst
      (λ j. FoldsTo (KeyTurn keys adds view eq init) (j, (g, s.1.1)) xs (key', (g', end))) asked.0
      (subst (λ j. FoldsTo (KeyTurn keys adds view eq init) (s.0, (j, s.1.1)) xs (key', (g', end)))
      made.0 turns) in
      subst (λ l. IsFoldedByKey end eq h f init l) (append_assoc done (x ∷ []) xs)
      (turns_fold (done ++ x ∷ []) xs s.1.1 end key' g'
      (folded-more laws init h f done x value s.1.1 put folded) rest)

-- The fold by key of the items of a list, through each view.
pub folded_view : {A K B F G : Type 0} (names : View K)
    {eq : names.Target → names.Target → Bool} (laws : IsEquivalence eq) (init : B)
    (keys : Mut F (Bor A × Unit {0}) K) (calls : Mut G (B × (A × Unit {0})) B) (key : F) (g : G)
    (ys : List A) (value : names.Target → Option B) (key' : F) (g' : G)
    → FoldsTo (KeyTurn keys (AddsByCall calls) names eq init) (key, (g, λ _. None)) ys
    (key', (g', value)) → (view : View A) (h : view.Target → names.Target)
    → NamesKeys keys names key (λ x. h (view.of x)) → (f : B → view.Target → B)
    → ActsAsOnTwo calls g (λ b x. f b (view.of x))
    → IsFoldedByKey value eq h f init (map view.of ys)
folded_view names laws init keys calls key g ys value key' g' turns view h acts f adds =
    folded-viewed laws init h f view.of ys value
    (turns_fold names laws init keys (AddsByCall calls) key g (λ x. h (view.of x))
    (λ b x. f b (view.of x)) acts (λ b x v j called. adds b x v j called) [] ys
    (λ _. None) value key'
    g' (λ q. refl) turns)

-- At an item of the loop after the first one, the closures may be called.
pub callable_later : {S A K B F G : Type 0} (steps : S → Option A → S → Type 0)
    (keys : Mut F (Bor A × Unit {0}) K) (calls : Mut G (B × (A × Unit {0})) B)
    (names : View K) (eq : names.Target → names.Target → Bool) (it : S) (key : F) (init : B) (f : G)
    (xs : List A) (t : F × (G × (names.Target → Option B))) {first : A} {left begun : S}
    {s : F × (G × (names.Target → Option B))} {now after : S} {x : A}
    → CallableByKey steps keys calls names eq it key init f → steps it (Some first) left
    → begun ≡ left
    → Yields steps begun xs now
    → KeyTurn keys (AddsByCall calls) names eq init (key, (f, λ _. None)) first s
    → FoldsTo (KeyTurn keys (AddsByCall calls) names eq init) s xs t → steps now (Some x) after
    → TakesAt keys t.0 x × ((k : K) (key' : F) → CalledAt keys t.0 x k key'
    → Takes calls t.1.0 (unwrap_or (t.1.1 (names.of k)) init, (x, tt)))
callable_later steps keys calls names eq it key init f xs t {first = first} {s = s} {now = now}
    {after = after} {x = x} callable begins same yields turn turns step =
    callable.at (first ∷ xs) now t x after (Yields-first steps it first xs now begins same yields)
    (s, turn, turns) step

-- The closure for keys is called in each turn.
pub turns_calls : {A K B F G : Type 0} (keys : Mut F (Bor A × Unit {0}) K)
    (adds : G → B → A → B → G → Type 0) (names : View K)
    (eq : names.Target → names.Target → Bool) (init : B)
    (p : F × (G × (names.Target → Option B))) (xs : List A)
    (q : F × (G × (names.Target → Option B))) → FoldsTo (KeyTurn keys adds names eq init) p xs q
    → FoldsTo (λ f x g. (k : K) × CalledAt keys f x k g) p.0 xs q.0
turns_calls keys adds names eq init p [] q same = ap (λ s. s.0) same
turns_calls keys adds names eq init p (x ∷ xs) q (s, (k, v, called, added, puts), turns) =
    (s.0, (k, called), turns_calls keys adds names eq init s xs q turns)

-- Groups are folds that append.
fold-and_last : {A : Type 0} (before ys : List A) → fold and_last before ys ≡ before ++ ys
fold-and_last before [] = sym (append-nil before)
fold-and_last before (y ∷ ys) =
    fold-and_last (before ++ y ∷ []) ys ∙ append_assoc before (y ∷ []) ys

of_some-list : {A : Type 0} (ys : List A)
    → fold_some and_last [] ys ≡ of_some (λ zs. zs) ys
of_some-list [] = refl
of_some-list (y ∷ ys) = ap Some (fold-and_last [] (y ∷ ys))

of_some-map : {A C : Type 0} (v : A → C) (ys : List A)
    → option_map (map v) (of_some (λ zs. zs) ys) ≡ of_some (λ zs. zs) (map v ys)
of_some-map v [] = refl
of_some-map v (y ∷ ys) = refl

-- The groups by key of the items of a list, through each view.
pub grouped_view : {A K F : Type 0} (names : View K)
    {eq : names.Target → names.Target → Bool} (laws : IsEquivalence eq)
    (keys : Mut F (Bor A × Unit {0}) K) (key : F) (ys : List A)
    (value : names.Target → Option (List A)) (key' : F)
    → FoldsTo (KeyTurn keys AddsLast names eq []) (key, (tt, λ _. None)) ys (key', (tt, value))
    → (view : View A) (h : view.Target → names.Target)
    → NamesKeys keys names key (λ x. h (view.of x))
    → IsGroupedByKey value eq view h (map view.of ys)
grouped_view names {eq = eq} laws keys key ys value key' turns view h acts q =
    let folded = turns_fold names laws [] keys AddsLast key tt (λ x. h (view.of x)) and_last acts
    (λ b x v j added. (refl, added)) [] ys (λ _. None) value key' tt (λ q. refl) turns in
    let test : view.Target → Bool = λ x. eq q (h x) in
    let mine = filter (λ x. test (view.of x)) ys in
    ap (option_map (map view.of)) (folded q ∙ of_some-list mine) ∙ of_some-map view.of mine
    ∙ ap (of_some (λ zs. zs)) (filter-viewed test view.of ys)
