-- `intersperse`: from a run of its iterator to the list that it yields.
use Rattle.std.proofs.Common.{arith, rules, subst, sym, ap, ◌∙◌, append_assoc, append-nil}
use Rattle.std.specs.Prelude.{◌≡◌, List, [], ◌∷◌, ◌++◌, Option, Some, None, refl, Bool, true, false}
use Rattle.std.specs.Prelude.{◌&&◌, Result, Ok, Err, is_ok, MatchResult, map, length, ◌*◌, ◌-◌}
use Rattle.std.specs.Iterator.{DrainsIf}
use Rattle.std.specs.List.{list_all, flat_map, join_by}
use Rattle.std.proofs.lemmas.Bool.{MatchBool-at_true, MatchBool-at_false, and_from}
use Rattle.std.proofs.lemmas.Option.{MatchOption-at_some, MatchOption-at_none, none-some}
use Rattle.std.proofs.iter.runs.Made.{run, took}
use Rattle.std.specs.declared.alloc.AllocError.{AllocError}
use Rattle.std.proofs.lemmas.Grind.{flat_map-append}
use Rattle.std.proofs.lemmas.List.{map-append}
use Rattle.ne_vec.specs.Lists.{IsPrefix}
use Rattle.ne_iter.specs.Intersperse.{Interspersed, drawn_from, clones_of, in_hand, is_over}
use Rattle.ne_iter.specs.Intersperse.{DrawsNext, InterspersesNext, interspersed, OnlyItsValues}
use Rattle.ne_iter.specs.Intersperse.{IntersperseRuns, IsInterspersed, JoinsLists}
use Rattle.ne_iter.specs.declared.iter.intersperse.RawIntersperse.{RawIntersperse}
use Rattle.ne_iter.specs.Cloned.{TriesClone}
use Rattle.ne_iter.specs.Sources.{ReadsList, EachReading, Reads}
use Rattle.ne_iter.proofs.Zip.{both_true}
use Rattle.ne_iter.proofs.Cloned.{only_ok}

module _ {S A E : Type 0} (steps : S → Option A → S → Type 0) (tries : A → Result A E → Type 0)
    (separator : A) where
  -- zs were yielded since x was held, and xs are the items after x.
  abbrev Behind : Bool → A → S → List (Result A E) → Type 0
  Behind whole x s zs = (xs : List A) × (more : List (Result A E))
      × DrainsIf steps ((whole && list_all is_ok zs) ≡ true) s xs
      × Interspersed (tries separator) (x ∷ xs) (zs ++ more) × (whole ≡ true → more ≡ [])

  -- No clone has failed, and o is held.
  abbrev Stands : RawIntersperse S A → Option A → Type 0
  Stands s o = (in_hand s ≡ o) × (is_over s ≡ false) × (clones_of s ≡ separator)

  abbrev Next : RawIntersperse S A → Option (Result A E) → RawIntersperse S A → Type 0
  Next = InterspersesNext steps tries

  -- The item held is returned.
  gave : (s t : RawIntersperse S A) (x : A) (r : Option (Result A E)) → Stands s (Some x)
      → Next s r t → (r ≡ Some (Ok x)) × (drawn_from t ≡ drawn_from s) × Stands t None
  gave s t x r at st = let h = MatchOption-at_some _ _ x at.0 (MatchBool-at_false _ _ at.1 st.1) in
      (h.returns, h.draws_none, (h.in_hand_then, h.is_on, st.0 ∙ at.2))

  -- No item was held.
  drew : (s t : RawIntersperse S A) (r : Option (Result A E)) → Stands s None → Next s r t
      → DrawsNext steps tries s r t
  drew s t r at st = MatchOption-at_none _ _ at.0 (MatchBool-at_false _ _ at.1 st.1)

  no_item : (s t : RawIntersperse S A) → DrawsNext steps tries s None t
      → steps (drawn_from s) None (drawn_from t)
  no_item s t (None, st, h) = st
  no_item s t (Some x, st, h) = absurd h

  -- The result of cloning the separator is returned, and y is the item after it.
  abbrev Came : RawIntersperse S A → Result A E → RawIntersperse S A → A → Type 0
  Came s c t y = steps (drawn_from s) (Some y) (drawn_from t) × tries (clones_of s) c
      × MatchResult c (λ _. (in_hand t ≡ Some y) × (is_over t ≡ false)) (λ _. is_over t ≡ true)

  an_item : (s t : RawIntersperse S A) (c : Result A E) → DrawsNext steps tries s (Some c) t
      → (y : A) × Came s c t y
  an_item s t c (None, st, h) = absurd (none-some c (sym h.0))
  an_item s t c (Some y, st, h) = (y, (st, h.0, h.1))

  -- After a failed clone nothing is yielded.
  silent : (W : Type 0) (s : RawIntersperse S A) (zs : List (Result A E)) → is_over s ≡ true
      → DrainsIf Next W s zs → zs ≡ []
  silent W s [] over run = refl
  silent W s (z ∷ zs) over (t, (j, st, rest), fin) = absurd
      (none-some z (sym (MatchBool-at_true _ _ over st.1).0))

  refused : (whole : Bool) (x y : A) (s t : S) (e : E) (zs : List (Result A E)) → zs ≡ []
      → steps s (Some y) t → tries separator (Err e) → Behind whole x s (Ok x ∷ Err e ∷ zs)
  refused whole x y s t e [] same st came = (
    y ∷ [],
    [],
    (t, (t, st, refl), λ w. let f = (both_true whole false w).1 in search rules),
    (Err e, [], came, refl, refl),
    λ _. refl,
  )
  refused whole x y s t e (z ∷ zs) same st came = let n = same in search rules

  cloned : (whole : Bool) (x y v : A) (s t : S) (zs : List (Result A E)) → steps s (Some y) t
      → tries separator (Ok v) → Behind whole y t zs → Behind whole x s (Ok x ∷ Ok v ∷ zs)
  cloned whole x y v s t zs st came b = (
    y ∷ b.0,
    b.1,
    (b.2.0, (t, st, b.2.1), b.2.2),
    (Ok v, zs ++ b.1, came, refl, b.3),
    b.4,
  )

  two : (whole : Bool) (x y : A) (s j k : RawIntersperse S A) (c : Result A E)
      (zs : List (Result A E)) → drawn_from j ≡ drawn_from s → clones_of j ≡ separator
      → clones_of k ≡ clones_of j
      → Came j c k y → DrainsIf Next (whole ≡ true) k zs
      → (Stands k (Some y) → Behind whole y (drawn_from k) zs)
      → Behind whole x (drawn_from s) (Ok x ∷ c ∷ zs)
  two whole x y s j k (Ok v) zs from sep same came run ih =
      cloned whole x y v (drawn_from s) (drawn_from k) zs
      (subst (λ q. steps q (Some y) (drawn_from k)) from came.0)
      (subst (λ q. tries q (Ok v)) sep came.1) (ih (came.2.0, came.2.1, same ∙ sep))
  two whole x y s j k (Err e) zs from sep same came run ih =
      refused whole x y (drawn_from s) (drawn_from k) e zs (silent (whole ≡ true) k zs came.2 run)
      (subst (λ q. steps q (Some y) (drawn_from k)) from came.0)
      (subst (λ q. tries q (Err e)) sep came.1)

  given : (z : Result A E) (x : A) → Some z ≡ Some (Ok x) → Ok x ≡ z
  given z x e = search rules

  pub DrainsIf-interspersed : (whole : Bool) (s : RawIntersperse S A) (x : A)
      (zs : List (Result A E)) → Stands s (Some x) → DrainsIf Next (whole ≡ true) s zs
      → Behind whole x (drawn_from s) zs
  DrainsIf-interspersed whole s x [] at (t, e, fin) =
      let unended : whole ≡ true → ⊥ = λ w. none-some (Ok x)
      (gave t (fin w).0 x None (subst (λ q. Stands q (Some x)) e at) (fin w).1).0 in (
        [],
        Ok x ∷ [],
        (drawn_from s, refl, λ w. absurd (unended (both_true whole true w).0)),
        refl,
        λ w. absurd (unended w),
      )
  DrainsIf-interspersed whole s x (z ∷ []) at (t, (j, st, e), fin) =
      let g = gave s j x (Some z) at st in
      let end : whole ≡ true → (u : S) × steps (drawn_from s) None u = λ w.
      let stands : Stands t None = subst (λ q. Stands q None) e g.2 in
      let d = drew t (fin w).0 None stands (fin w).1 in (
        drawn_from (fin w).0,
        subst (λ q. steps q None (drawn_from (fin w).0))
            (ap drawn_from (sym e) ∙ g.1) (no_item t (fin w).0 d),
      ) in
      subst (λ q. Behind whole x (drawn_from s) (q ∷ [])) (given z x g.0)
      ([], [], (drawn_from s, refl, λ w. end (both_true whole true w).0), refl, λ _. refl)
  DrainsIf-interspersed whole s x (z ∷ c ∷ zs) at (t, (j, st, (k, next, rest)), fin) =
      let g = gave s j x (Some z) at st in
      let d = drew j k (Some c) g.2 next in
      let came = an_item j k c d in
      subst (λ q. Behind whole x (drawn_from s) (q ∷ c ∷ zs)) (given z x g.0)
      (two whole x came.0 s j k c zs g.1 g.2.2 next.0 came.1 (t, rest, fin)
      (λ stands. DrainsIf-interspersed whole k came.0 zs stands (t, rest, fin)))

behind_separators : {A X : Type 0} (f : A → List X) (s : A) (xs : List A)
    → flat_map f (flat_map (λ x. s ∷ x ∷ []) xs) ≡ flat_map (λ x. f s ++ f x) xs
behind_separators f s [] = refl
behind_separators f s (x ∷ xs) = ap (λ l. f s ++ (f x ++ l)) (behind_separators f s xs)
    ∙ sym (append_assoc (f s) (f x) (flat_map (λ y. f s ++ f y) xs))

joined_items : {A X : Type 0} (f : A → List X) (s : A) (xs : List A)
    → flat_map f (interspersed s xs) ≡ join_by f (f s) xs
joined_items f s [] = refl
joined_items f s (x ∷ xs) = ap (λ l. f x ++ l) (behind_separators f s xs)

separators_count : {A : Type 0} (s : A) (xs : List A)
    → length (flat_map (λ x. s ∷ x ∷ []) xs) ≡ 2 * length xs
separators_count s [] = refl
separators_count s (x ∷ xs) = omega (arith, separators_count s xs)

count_interspersed : {A : Type 0} (s : A) (xs : List A)
    → length (interspersed s xs) ≡ 2 * length xs - 1
count_interspersed s [] = refl
count_interspersed s (x ∷ xs) = omega (arith, separators_count s xs)

pub joins_lists : {A : Type 0} (s : A) (xs : List A) → JoinsLists s xs
joins_lists s xs = (count_interspersed s xs, λ f. joined_items f s xs)

module _ {A : Type 0} (E : Type 0) where
  pub values_are : (xs ys : List A) → map {B = Result A E} Ok xs ≡ map Ok ys → xs ≡ ys
  values_are [] [] e = refl
  values_are [] (y ∷ ys) e = cc
  values_are (x ∷ xs) [] e = cc
  values_are (x ∷ xs) (y ∷ ys) e =
      let same : x ≡ y = cc in
      let rest : map {B = Result A E} Ok xs ≡ map Ok ys = cc in
      let more = values_are xs ys rest in
      cc

pub only_its_values : {A : Type 0} (E : Type 0) (s : A) (xs : List A) → OnlyItsValues E s xs
only_its_values E s xs values e = (refl, sym (values_are E (interspersed s xs) values e))

module _ {A : Type 0} (E : Type 0) where
  are_ok : (xs : List A) → list_all is_ok (map {B = Result A E} Ok xs) ≡ true
  are_ok [] = refl
  are_ok (x ∷ xs) = are_ok xs

module _ {A E : Type 0} (clones : A → A → Type 0) (infallible : A → Type 0) (s : A)
    (sure : infallible s) (same : (y z : A) → clones y z → z ≡ y) where
  -- The items yielded are the list with separators.
  all_yielded : (xs : List A) (zs : List (Result A E))
      → Interspersed (TriesClone clones infallible s) xs zs
      → zs ≡ map Ok (interspersed s xs)
  all_yielded [] zs h = h
  all_yielded (x ∷ []) zs h = h
  all_yielded (x ∷ y ∷ xs) zs (Ok c, more, came, is, rest) =
      let ih = all_yielded (y ∷ xs) more rest in
      let clone : c ≡ s = same s c came in
      is ∙ ap (λ d. Ok x ∷ Ok d ∷ more) clone ∙ ap (λ l. Ok x ∷ Ok s ∷ l) ih
  all_yielded (x ∷ y ∷ xs) zs (Err e, more, came, is, rest) = absurd (came sure)

module _ {S A : Type 0} (steps : S → Option A → S → Type 0) (clones : A → A → Type 0)
    (infallible : A → Type 0) (s x : A) (rest : S) where
  pub runs_interspersed : (it : RawIntersperse S A)
      → (in_hand it ≡ Some x) × (is_over it ≡ false) × (clones_of it ≡ s) → drawn_from it ≡ rest
      → IntersperseRuns steps clones infallible s x rest it
  runs_interspersed it stands from p seen at =
      let zs : List (Result A AllocError) = p.items in
      let b = DrainsIf-interspersed steps (TriesClone clones infallible) s p.whole p.from x zs
      (subst (λ q. (in_hand q ≡ Some x) × (is_over q ≡ false) × (clones_of q ≡ s)) (sym at) stands)
      (took p) in
      let ends = p.whole && list_all is_ok zs in
      let given = subst (λ q. DrainsIf steps (ends ≡ true) q b.0) (ap drawn_from at ∙ from) b.2 in (
        run steps rest b.0 ends given,
        refl,
        λ sure same w.
            let is : zs ≡ map Ok (interspersed s (x ∷ b.0)) =
            sym (append-nil zs) ∙ ap (λ l. zs ++ l) (sym (b.4 w))
            ∙ all_yielded clones infallible s sure same (x ∷ b.0) (zs ++ b.1) b.3 in (
              ap (λ v. v && list_all is_ok zs) w ∙ ap (list_all is_ok) is
                  ∙ are_ok AllocError (interspersed s (x ∷ b.0)),
              is,
              λ values h. (refl, values_are AllocError values _ (sym h ∙ is)),
            ),
      )

pub interspersed_prefix : {A : Type 0} (s : A) (us more : List A)
    → (tail : List A) × (interspersed s (us ++ more) ≡ interspersed s us ++ tail)
    × (more ≡ [] → tail ≡ [])
interspersed_prefix s [] more = (interspersed s more, refl, λ e. ap (interspersed s) e)
interspersed_prefix s (u ∷ us) more = (
  flat_map (λ x. s ∷ x ∷ []) more,
  ap (λ l. u ∷ l) (flat_map-append (λ x. s ∷ x ∷ []) us more),
  λ e. ap (flat_map (λ x. s ∷ x ∷ [])) e,
)

list_all_ok : {T E : Type 0} (zs more : List (Result T E)) (xs : List T) → zs ++ more ≡ map Ok xs
    → list_all is_ok zs ≡ true
list_all_ok [] more xs e = refl
list_all_ok (z ∷ zs) more [] e = let e = e in cc
list_all_ok (Ok z ∷ zs) more (x ∷ xs) e =
    let others : zs ++ more ≡ map Ok xs = cc in list_all_ok zs more xs others
list_all_ok (Err z ∷ zs) more (x ∷ xs) e = let e = e in cc

module _ {T E : Type 0} (came : Result T E → Type 0) (s : T)
    (only : (r : Result T E) → came r → r ≡ Ok s) where
  spaced : (xs : List T) (zs : List (Result T E)) → Interspersed came xs zs
      → zs ≡ map Ok (interspersed s xs)
  spaced [] zs h = h
  spaced (x ∷ []) zs h = h
  spaced (x ∷ y ∷ xs) zs h =
      let clone = only h.0 h.2 in
      let others = spaced (y ∷ xs) h.1
      (subst (λ c. MatchResult c (λ _. Interspersed came (y ∷ xs) h.1) (λ _. h.1 ≡ []))
      clone h.4) in
      let whole = h.3 in
      cc

  -- The items yielded so far are a prefix of the whole list.
  pub spaced_prefix : (whole : Bool) (xs us : List T) (more zs : List (Result T E))
      → Interspersed came us (zs ++ more) → (whole ≡ true → more ≡ [])
      → IsPrefix (whole && list_all is_ok zs) xs us
      → IsPrefix whole (map Ok (interspersed s xs)) zs
  spaced_prefix whole xs us more zs spread ended f =
      let all = spaced us (zs ++ more) spread in
      let tail = interspersed_prefix s us f.0 in (
        more ++ map Ok tail.0,
        ap (λ l. map Ok (interspersed s l)) f.1 ∙ ap (map Ok) tail.1
            ∙ map-append Ok (interspersed s us) tail.0
            ∙ ap (λ l. l ++ map Ok tail.0) (sym all) ∙ append_assoc zs more (map Ok tail.0),
        λ w. ap (λ l. l ++ map Ok tail.0) (ended w)
            ∙ ap (map Ok) (tail.2 (f.2 (and_from whole _ w (list_all_ok zs more _ all)))),
      )

module _ {U V A S T : Type 0} {becomes : U → S → Type 0} {steps : S → Option A → S → Type 0}
    {made : V → T → Type 0} {u : U} {v : V} where
  pub intersperse_list : {E : Type 0} {next : T → Option (Result A E) → T → Type 0} {s : A}
      (clones : A → A → Type 0) (infallible : A → Type 0)
      → EachReading (Reads made next) v (IsInterspersed (Reads becomes steps)
      (TriesClone clones infallible) u s)
      → (xs : List A) → infallible s → ((y : A) → clones s y → y ≡ s)
      → ReadsList (Reads becomes steps) u xs
      → ReadsList (Reads made next) v (map Ok (interspersed s xs))
  intersperse_list {s = s} clones infallible gives xs none same list whole zs read =
      let parts = gives whole zs read in
      spaced_prefix (TriesClone clones infallible s) s
      (only_ok clones infallible s none same)
      whole xs parts.items parts.later zs parts.spaced parts.over
      (list _ parts.items parts.read)
