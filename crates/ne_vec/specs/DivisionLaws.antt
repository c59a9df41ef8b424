-- Proofs, also for the crates above: the division of a list as a function. There is no other
-- division; further items extend it; that of a mapped list is the mapped one.
use Rattle.std.proofs.Common.{◌≡◌, ◌≢◌, Bool, true, false, cond, List, [], ◌∷◌, ◌++◌, refl, sym, ap}
use Rattle.std.proofs.Common.{subst, ◌∙◌, ◌⊎◌, inl, inr, append_assoc, append-nil, map}
use Rattle.std.proofs.lemmas.List.{map_push}
use Rattle.std.specs.List.{AllByRecursion}
use Rattle.ne_vec.specs.Divisions.{concat, Adjacent, IsRun, Breaks, IsDivision, runs_from}

pub nil_is_no_append : {A : Type 0} (prefix : List A) (y : A) (back : List A)
    → [] ≡ prefix ++ y ∷ back → ⊥
nil_is_no_append [] y back e = cc
nil_is_no_append (f ∷ prefix) y back e = cc

pub head_is : {A : Type 0} {x y : A} {xs ys : List A} → x ∷ xs ≡ y ∷ ys → x ≡ y
head_is e = cc

pub tail_is : {A : Type 0} {x y : A} {xs ys : List A} → x ∷ xs ≡ y ∷ ys → xs ≡ ys
tail_is e = cc

-- An item y in a split of the list r, followed by x, is x itself or an item of r.
split_last : {A : Type 0} (r prefix : List A) (x y : A) (back : List A)
    → r ++ x ∷ [] ≡ prefix ++ y ∷ back → ((prefix ≡ r) × (y ≡ x))
    ⊎ ((inner : List A) × (r ≡ prefix ++ y ∷ inner))
split_last [] [] x y back e = inl (refl, sym (head_is e))
split_last [] (f ∷ prefix) x y back e = absurd (nil_is_no_append prefix y back (tail_is e))
split_last (a ∷ r) [] x y back e = inr (r, ap (λ v. v ∷ r) (head_is e))
split_last (a ∷ r) (f ∷ prefix) x y back e = elim (split_last r prefix x y back (tail_is e)) [
  | inl h ↦ inl (subst (λ v. f ∷ prefix ≡ v ∷ r) (sym (head_is e)) (ap (λ l. f ∷ l) h.0), h.1)
  | inr h ↦ inr (
    h.0,
    subst (λ v. v ∷ r ≡ f ∷ (prefix ++ y ∷ h.0)) (sym (head_is e))
        (ap (λ l. f ∷ l) h.1),
  )
]

module _ {A : Type 0} (goes_on : List A → A → Bool) where
  abbrev pub divide : List A → List (List A)
  divide [] = []
  divide (x ∷ xs) = runs_from goes_on (x ∷ []) xs

  pub cut_on : (r : List A) (x : A) (xs : List A) → goes_on r x ≡ true
      → runs_from goes_on r (x ∷ xs) ≡ runs_from goes_on (r ++ x ∷ []) xs
  cut_on r x xs e = rw e refl

  pub cut_off : (r : List A) (x : A) (xs : List A) → goes_on r x ≡ false
      → runs_from goes_on r (x ∷ xs) ≡ r ∷ runs_from goes_on (x ∷ []) xs
  cut_off r x xs e = rw e refl

  -- ---- the function makes a division

  pub run_one : (x : A) → IsRun goes_on (x ∷ [])
  run_one x = record {
    some = λ e. cc;
    inside = λ prefix y back ne e. elim prefix as
        (λ f. f ≢ [] → x ∷ [] ≡ f ++ y ∷ back → goes_on f y ≡ true) [
          | [] ↦ λ k _. absurd (k refl)
          | f ∷ fs ↦ λ _ h. absurd (nil_is_no_append fs y back (tail_is h))
        ] ne e;
  }

  pub run_more : (r : List A) (x : A) → IsRun goes_on r → goes_on r x ≡ true
      → IsRun goes_on (r ++ x ∷ [])
  run_more r x h on = record {
    some = λ e. nil_is_no_append r x [] (sym e);
    inside = λ prefix y back ne e. elim (split_last r prefix x y back e) [
      | inl k ↦ rw (k.0, k.1) on
      | inr k ↦ h.inside prefix y k.0 ne k.1
    ];
  }

  joined_cut : (r xs : List A) → concat (runs_from goes_on r xs) ≡ r ++ xs
  joined_cut r [] = refl
  joined_cut r (x ∷ xs) = elim (goes_on r x) as
      (λ v. concat (cond v (runs_from goes_on (r ++ x ∷ []) xs) (r ∷ runs_from goes_on (x ∷ []) xs))
      ≡ r ++ x ∷ xs) [
        | true ↦ joined_cut (r ++ x ∷ []) xs ∙ append_assoc r (x ∷ []) xs
        | false ↦ ap (λ l. r ++ l) (joined_cut (x ∷ []) xs)
      ]

  runs_cut : (r xs : List A) → IsRun goes_on r
      → AllByRecursion (IsRun goes_on) (runs_from goes_on r xs)
  runs_cut r [] h = (h, tt)
  runs_cut r (x ∷ xs) h = elim (goes_on r x) as
      (λ v. goes_on r x ≡ v → AllByRecursion (IsRun goes_on)
      (cond v (runs_from goes_on (r ++ x ∷ []) xs) (r ∷ runs_from goes_on (x ∷ []) xs))) [
        | true ↦ λ e. runs_cut (r ++ x ∷ []) xs (run_more r x h e)
        | false ↦ λ _. (h, runs_cut (x ∷ []) xs (run_one x))
      ] refl

  still_breaks : (p r : List A) (x : A) → r ≢ [] → Breaks goes_on p r
      → Breaks goes_on p (r ++ x ∷ [])
  still_breaks p [] x ne b = absurd (ne refl)
  still_breaks p (y ∷ r) x ne b = b

  breaks_after : (p r xs : List A) → r ≢ [] → Breaks goes_on p r
      → Adjacent (Breaks goes_on) (p ∷ runs_from goes_on r xs)
  breaks_after p r [] ne b = (b, tt)
  breaks_after p r (x ∷ xs) ne b = elim (goes_on r x) as
      (λ v. goes_on r x ≡ v → Adjacent (Breaks goes_on)
      (p ∷ cond v (runs_from goes_on (r ++ x ∷ []) xs) (r ∷ runs_from goes_on (x ∷ []) xs))) [
        | true ↦ λ e. breaks_after p (r ++ x ∷ []) xs (λ k. nil_is_no_append r x [] (sym k))
            (still_breaks p r x ne b)
        | false ↦ λ e. (b, breaks_after r (x ∷ []) xs (λ k. nil_is_no_append [] x [] (sym k)) e)
      ] refl

  breaks_cut : (r xs : List A) → Adjacent (Breaks goes_on) (runs_from goes_on r xs)
  breaks_cut r [] = tt
  breaks_cut r (x ∷ xs) = elim (goes_on r x) as
      (λ v. goes_on r x ≡ v → Adjacent (Breaks goes_on)
      (cond v (runs_from goes_on (r ++ x ∷ []) xs) (r ∷ runs_from goes_on (x ∷ []) xs))) [
        | true ↦ λ e. breaks_cut (r ++ x ∷ []) xs
        | false ↦ λ e. breaks_after r (x ∷ []) xs (λ k. nil_is_no_append [] x [] (sym k)) e
      ] refl

  pub divides : (xs : List A) → IsDivision goes_on xs (divide xs)
  divides [] = record { whole = refl; runs = tt; breaks = tt }
  divides (x ∷ xs) = record {
    whole = joined_cut (x ∷ []) xs;
    runs = runs_cut (x ∷ []) xs (run_one x);
    breaks = breaks_cut (x ∷ []) xs;
  }

  -- ---- there is no other division

  cut_only : (xs r s t : List A) (rs : List (List A)) → t ≡ r ++ s → r ≢ [] → s ++ concat rs ≡ xs
      → IsRun goes_on t → AllByRecursion (IsRun goes_on) rs → Adjacent (Breaks goes_on) (t ∷ rs)
      → t ∷ rs ≡ runs_from goes_on r xs
  cut_only [] r [] t [] e ne w h hs b = ap (λ l. l ∷ []) (e ∙ append-nil r)
  cut_only [] r [] t ([] ∷ us) e ne w h hs b = absurd (hs.0.some refl)
  cut_only [] r [] t ((y ∷ u) ∷ us) e ne w h hs b = absurd cc
  cut_only [] r (y ∷ s) t rs e ne w h hs b = absurd cc
  cut_only (x ∷ xs) r [] t [] e ne w h hs b = absurd cc
  cut_only (x ∷ xs) r [] t ([] ∷ us) e ne w h hs b = absurd (hs.0.some refl)
  cut_only (x ∷ xs) r [] t ((y ∷ u) ∷ us) e ne w h hs b =
      let is : t ≡ r = e ∙ append-nil r in
      let off : goes_on r x ≡ false = subst (λ v. goes_on r v ≡ false) (head_is w)
      (subst (λ v. goes_on v y ≡ false) is b.0) in
      let rest : (y ∷ u) ∷ us ≡ runs_from goes_on (x ∷ []) xs = cut_only xs (x ∷ []) u (y ∷ u) us
      (ap (λ v. v ∷ u) (head_is w)) (λ k. nil_is_no_append [] x [] (sym k)) (tail_is w) hs.0
      hs.1 b.1 in
      subst (λ v. v ∷ (y ∷ u) ∷ us ≡ r ∷ runs_from goes_on (x ∷ []) xs) (sym is)
      (ap (λ l. r ∷ l) rest) ∙ sym (cut_off r x xs off)
  cut_only (x ∷ xs) r (y ∷ s) t rs e ne w h hs b =
      let on : goes_on r x ≡ true = subst (λ v. goes_on r v ≡ true) (head_is w)
      (h.inside r y s ne e) in
      let is : t ≡ (r ++ x ∷ []) ++ s = e ∙ (ap (λ v. r ++ v ∷ s) (head_is w)
      ∙ sym (append_assoc r (x ∷ []) s)) in
      cut_only xs (r ++ x ∷ []) s t rs is (λ k. nil_is_no_append r x [] (sym k)) (tail_is w) h hs b
      ∙ sym (cut_on r x xs on)

  pub divide_only : (xs : List A) (rs : List (List A)) → IsDivision goes_on xs rs → rs ≡ divide xs
  divide_only [] [] h = refl
  divide_only [] ([] ∷ rs) h = absurd (h.runs.0.some refl)
  divide_only [] ((y ∷ r) ∷ rs) h = absurd (nil_is_no_append [] y (r ++ concat rs) (sym h.whole))
  divide_only (x ∷ xs) [] h = absurd (nil_is_no_append [] x xs h.whole)
  divide_only (x ∷ xs) ([] ∷ rs) h = absurd (h.runs.0.some refl)
  divide_only (x ∷ xs) ((y ∷ r) ∷ rs) h = cut_only xs (x ∷ []) r (y ∷ r) rs
      (ap (λ v. v ∷ r) (head_is h.whole)) (λ k. nil_is_no_append [] x [] (sym k)) (tail_is h.whole)
      h.runs.0 h.runs.1 h.breaks

  pub division_only : (xs : List A) (rs others : List (List A)) → IsDivision goes_on xs rs
      → IsDivision goes_on xs others → rs ≡ others
  division_only xs rs others h k = divide_only xs rs h ∙ sym (divide_only xs others k)

  -- ---- a longer list

  cut_is_some : (r xs : List A) → runs_from goes_on r xs ≢ []
  cut_is_some r [] = λ e. nil_is_no_append [] r [] (sym e)
  cut_is_some r (x ∷ xs) = elim (goes_on r x) as
      (λ v. cond v (runs_from goes_on (r ++ x ∷ []) xs) (r ∷ runs_from goes_on (x ∷ []) xs) ≢ []) [
        | true ↦ cut_is_some (r ++ x ∷ []) xs
        | false ↦ λ e. nil_is_no_append [] r (runs_from goes_on (x ∷ []) xs) (sym e)
      ]

  cut_append : (r xs zs : List A) (rs : List (List A)) (last : List A)
      → runs_from goes_on r xs ≡ rs ++ last ∷ []
      → runs_from goes_on r (xs ++ zs) ≡ rs ++ runs_from goes_on last zs
  cut_append r [] zs [] last = λ e. ap (λ l. runs_from goes_on l zs) (head_is e)
  cut_append r [] zs (f ∷ rs) last = λ e. absurd (nil_is_no_append rs last [] (tail_is e))
  cut_append r (x ∷ xs) zs rs last = elim (goes_on r x) as
      (λ v. cond v (runs_from goes_on (r ++ x ∷ []) xs) (r ∷ runs_from goes_on (x ∷ []) xs) ≡ rs
      ++ last ∷ [] → cond v (runs_from goes_on (r ++ x ∷ []) (xs ++ zs))
      (r ∷ runs_from goes_on (x ∷ []) (xs ++ zs)) ≡ rs ++ runs_from goes_on last zs) [
        | true ↦ cut_append (r ++ x ∷ []) xs zs rs last
        | false ↦ elim rs as (λ l. r ∷ runs_from goes_on (x ∷ []) xs ≡ l ++ last ∷ []
            → r ∷ runs_from goes_on (x ∷ []) (xs ++ zs) ≡ l ++ runs_from goes_on last zs) [
              | [] ↦ λ e. absurd (cut_is_some (x ∷ []) xs (tail_is e))
              | f ∷ fs ↦ λ e. subst (λ v. r ∷ runs_from goes_on (x ∷ []) (xs ++ zs)
                  ≡ v ∷ (fs ++ runs_from goes_on last zs)) (head_is e)
                  (ap (λ l. r ∷ l) (cut_append (x ∷ []) xs zs fs last (tail_is e)))
            ]
      ]

  divide_append : (xs zs : List A) (rs : List (List A)) (last : List A)
      → divide xs ≡ rs ++ last ∷ [] → divide (xs ++ zs) ≡ rs ++ runs_from goes_on last zs
  divide_append [] zs rs last e = absurd (nil_is_no_append rs last [] e)
  divide_append (x ∷ xs) zs rs last e = cut_append (x ∷ []) xs zs rs last e

  pub longer_keeps : (xs more : List A) (rs all : List (List A)) (last : List A)
      → IsDivision goes_on xs (rs ++ last ∷ []) → IsDivision goes_on (xs ++ more) all
      → (rest : List (List A)) × (all ≡ rs ++ rest)
  longer_keeps xs more rs all last h k = (
    runs_from goes_on last more,
    divide_only (xs ++ more) all k ∙ divide_append xs more rs last
        (sym (divide_only xs (rs ++ last ∷ []) h)),
  )

  -- One more item continues the last run, or begins a new one.
  pub division_goes_on : (xs : List A) (x : A) (rs : List (List A)) (last : List A)
      → IsDivision goes_on xs (rs ++ last ∷ []) → goes_on last x ≡ true
      → IsDivision goes_on (xs ++ x ∷ []) (rs ++ (last ++ x ∷ []) ∷ [])
  division_goes_on xs x rs last h on = subst (IsDivision goes_on (xs ++ x ∷ []))
      (divide_append xs (x ∷ []) rs last (sym (divide_only xs (rs ++ last ∷ []) h))
      ∙ ap (λ l. rs ++ l) (cut_on last x [] on)) (divides (xs ++ x ∷ []))

  pub division_breaks : (xs : List A) (x : A) (rs : List (List A)) (last : List A)
      → IsDivision goes_on xs (rs ++ last ∷ []) → goes_on last x ≡ false
      → IsDivision goes_on (xs ++ x ∷ []) ((rs ++ last ∷ []) ++ (x ∷ []) ∷ [])
  division_breaks xs x rs last h off = subst (IsDivision goes_on (xs ++ x ∷ []))
      (divide_append xs (x ∷ []) rs last (sym (divide_only xs (rs ++ last ∷ []) h))
      ∙ (ap (λ l. rs ++ l) (cut_off last x [] off)
      ∙ sym (append_assoc rs (last ∷ []) ((x ∷ []) ∷ [])))) (divides (xs ++ x ∷ []))

module _ {A B : Type 0} (f : A → B) (goes_on : List A → A → Bool) (mapped_on : List B → B → Bool)
    (alike : (r : List A) (x : A) → mapped_on (map f r) (f x) ≡ goes_on r x) where
  cut_mapped : (r xs : List A) → runs_from mapped_on (map f r) (map f xs)
      ≡ map (map f) (runs_from goes_on r xs)
  cut_mapped r [] = refl
  cut_mapped r (x ∷ xs) =
      subst (λ v. cond v (runs_from mapped_on (map f r ++ f x ∷ []) (map f xs))
      (map f r ∷ runs_from mapped_on (f x ∷ []) (map f xs))
      ≡ map (map f) (cond (goes_on r x) (runs_from goes_on (r ++ x ∷ []) xs)
      (r ∷ runs_from goes_on (x ∷ []) xs))) (sym (alike r x)) (
      elim (goes_on r x) as (λ v. cond v (runs_from mapped_on (map f r ++ f x ∷ []) (map f xs))
      (map f r ∷ runs_from mapped_on (f x ∷ []) (map f xs))
      ≡ map (map f) (cond v (runs_from goes_on (r ++ x ∷ []) xs)
      (r ∷ runs_from goes_on (x ∷ []) xs))) [
        | true ↦ ap (λ l. runs_from mapped_on l (map f xs)) (sym (map_push f r x))
            ∙ cut_mapped (r ++ x ∷ []) xs
        | false ↦ ap (λ l. map f r ∷ l) (cut_mapped (x ∷ []) xs)
      ]
      )

  divide_mapped : (xs : List A) → divide mapped_on (map f xs) ≡ map (map f) (divide goes_on xs)
  divide_mapped [] = refl
  divide_mapped (x ∷ xs) = cut_mapped (x ∷ []) xs

  pub division_mapped : (xs : List A) (rs : List (List A)) → IsDivision goes_on xs rs
      → IsDivision mapped_on (map f xs) (map (map f) rs)
  division_mapped xs rs d = subst (IsDivision mapped_on (map f xs))
      (divide_mapped xs ∙ ap (map (map f)) (sym (divide_only goes_on xs rs d)))
      (divides mapped_on (map f xs))
