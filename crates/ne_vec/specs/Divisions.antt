-- The division of a list into runs, as a relation over whole lists.
use Rattle.std.specs.Prelude.{◌≡◌, ◌≢◌, ⊤, Bool, true, false, cond, List, [], ◌∷◌, ◌++◌}
use Rattle.std.specs.List.{AllByRecursion}

-- The lists, one after another.
abbrev pub concat : {A : Type 0} → List (List A) → List A
concat [] = []
concat (r ∷ rs) = r ++ concat rs

-- R holds of each list and the next one
abbrev pub Adjacent : {A : Type 0} → (A → A → Type 0) → List A → Type 0
Adjacent R [] = ⊤
Adjacent R (r ∷ []) = ⊤
Adjacent R (r ∷ s ∷ rs) = R r s × Adjacent R (s ∷ rs)

-- Whether x continues a run, compared with the run's first item.
abbrev pub by_first : {A : Type 0} → (A → A → Bool) → List A → A → Bool
by_first same [] x = true
by_first same (first ∷ later) x = same first x

-- Whether x continues a run, compared with the run's last item, which is the one before x.
abbrev pub by_previous : {A : Type 0} → (A → A → Bool) → List A → A → Bool
by_previous same [] x = true
by_previous same (last ∷ []) x = same last x
by_previous same (first ∷ second ∷ later) x = by_previous same (second ∷ later) x

module _ {A : Type 0} (goes_on : List A → A → Bool) where
  -- r is not empty, and each later item continues the part of r before it.
  pub record IsRun (r : List A) : Type 0 where
    pub some : r ≢ []
    pub inside : (prefix : List A) (x : A) (back : List A) → prefix ≢ [] → r ≡ prefix ++ x ∷ back
        → goes_on prefix x ≡ true

  -- The first item of s, if there is one, does not continue r.
  abbrev pub Breaks : List A → List A → Type 0
  Breaks r [] = ⊤
  Breaks r (x ∷ back) = goes_on r x ≡ false

  -- rs are the runs of xs.
  pub record IsDivision (xs : List A) (rs : List (List A)) : Type 0 where
    pub whole : concat rs ≡ xs
    pub runs : AllByRecursion IsRun rs
    pub breaks : Adjacent Breaks rs

-- The first items of the lists that have one.
abbrev pub heads : {A : Type 0} → List (List A) → List A
heads [] = []
heads ([] ∷ rs) = heads rs
heads ((x ∷ r) ∷ rs) = x ∷ heads rs

module _ {A : Type 0} (goes_on : List A → A → Bool) where
  -- The runs of r ++ xs, if r is the beginning of the first run.
  abbrev pub runs_from : List A → List A → List (List A)
  runs_from r [] = r ∷ []
  runs_from r (x ∷ xs) =
      cond (goes_on r x) (runs_from (r ++ x ∷ []) xs) (r ∷ runs_from (x ∷ []) xs)

module _ {A : Type 0} (place : (A → A → Bool) → List A → A → Bool) (same : A → A → Bool) where
  -- `place` is `by_first` or `by_previous`. `grind` does not unfold `runs_of`.
  -- The runs of xs by the test `same`: the one division of xs.
  unfoldable pub runs_of : List A → List (List A)
  runs_of [] = []
  runs_of (x ∷ xs) = runs_from (place same) (x ∷ []) xs
