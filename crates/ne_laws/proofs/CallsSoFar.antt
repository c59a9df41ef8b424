-- The calls that were made so far, and those that are left.
use Rattle.std.proofs.Common.{◌≡◌, List, [], ◌∷◌, ◌++◌, ap, append_assoc, sym, ◌∙◌, ◌+◌, length}
use Rattle.std.proofs.Common.{refl, subst}
use Rattle.std.proofs.lemmas.List.{length-append}
use Rattle.std.specs.Prelude.{Result, Ok, Err, OnErr}
use Rattle.ne_laws.specs.Calls.{RunsTo}

-- What is left after one more call.
pub left_after : {A : Type 0} (done : List A) (x : A) (left next all : List A) → left ≡ x ∷ next
    → done ++ left ≡ all → (done ++ x ∷ []) ++ next ≡ all
left_after done x left next all e h =
    append_assoc done (x ∷ []) next ∙ ap (λ l. done ++ l) (sym e) ∙ h

-- There are as many replies as calls, after one more of each.
pub as_many : {A B : Type 0} (xs : List A) (x : A) (ys : List B) (y : B) → length xs ≡ length ys
    → length (xs ++ x ∷ []) ≡ length (ys ++ y ∷ [])
as_many xs x ys y h = length-append xs (x ∷ []) ∙ ap (λ n. n + 1) h
    ∙ sym (length-append ys (y ∷ []))

pub on_err : {T E : Type 0} (r : Result T E) (P : Type 0) → P → OnErr r P
on_err (Ok x) P p = tt
on_err (Err e) P p = p

module _ {S C R : Type 0} (is_valid : S → Type 0) (replies : S → C → R → S → Type 0) where
  -- One more call at the end of a run.
  pub one_more : (s : S) (cs : List C) (rs : List R) (mid : S) (c : C) (r : R) (t : S)
      → RunsTo is_valid replies s cs rs mid → replies mid c r t → is_valid t
      → RunsTo is_valid replies s (cs ++ c ∷ []) (rs ++ r ∷ []) t
  one_more s [] rs mid c r t h step valid = (
    h.0,
    (r, [], t, rw h.1 refl, subst (λ m. replies m c r t) h.2 step, (valid, refl, refl)),
  )
  one_more s (d ∷ cs) rs mid c r t h step valid = (
    h.0,
    (
      h.1.0,
      h.1.1 ++ r ∷ [],
      h.1.2,
      rw h.1.3 refl,
      h.1.4,
      one_more h.1.2 cs h.1.1 mid c r t h.1.5 step valid,
    ),
  )
