-- What a source appends to a vector: all of its list, or what came before an allocation failed; and
-- two counts whose sum is finite.
use Rattle.std.proofs.Common.{ap, ◌∙◌}
use Rattle.std.specs.Prelude.{◌≡◌, Bool, true, false, List, ◌++◌, Option, Result, Ok, Err, OnOk, T}
use Rattle.std.specs.Prelude.{cond}
use Rattle.std.specs.Iterator.{Count, DrainsIf, IsFinite, Yields, count_add}
use Rattle.std.specs.Result.{is_ok, IsErr}
use Rattle.ne_vec.specs.ListLaws.{triggered}
use Rattle.ne_vec.specs.Lists.{EachList, Lists}
use Rattle.ne_iter.specs.Collected.{AppendsRead}
use Rattle.ne_iter.specs.Sources.{Reads}
use Rattle.ne_iter.specs.LoopLaws.{whole_prefix}
use Rattle.ne_iter.specs.LoopLaws.{lists_read}

not_ok : {V E : Type 0} (r : Result V E) → IsErr r → is_ok r ≡ true → ⊥
not_ok (Ok v) is ok = absurd cc
not_ok (Err e) is ok = absurd cc

-- The items that came before the failure.
pub DrainsIf-failed : {S A V E : Type 0} (steps : S → Option A → S → Type 0) (r : Result V E)
    → IsErr r → (s t : S) (xs : List A) → Yields steps s xs t
    → DrainsIf steps (is_ok r ≡ true) s xs
DrainsIf-failed steps r is s t xs gave = (t, gave, λ ok. absurd (not_ok r is ok))

-- A source of a list appends the list.
module _ {U S A : Type 0} (becomes : U → S → Type 0) (steps : S → Option A → S → Type 0) (u : U)
    (old new : List A) where
  pub list_appended : AppendsRead (Reads becomes steps true u) old new
      → EachList (Lists becomes steps (λ x. x)) u (λ xs. new ≡ old ++ xs)
  list_appended read xs lists = (
    triggered u xs,
    read.2 ∙ ap (λ l. old ++ l)
        (whole_prefix xs read.0 (lists_read becomes steps u xs lists true read.0 read.1)),
  )

  pub list_appended_if_ok : {V E : Type 0} (r : Result V E)
      → AppendsRead (Reads becomes steps (is_ok r) u) old new
      → OnOk r (EachList (Lists becomes steps (λ x. x)) u (λ xs. new ≡ old ++ xs))
  list_appended_if_ok (Ok v) read = list_appended read
  list_appended_if_ok (Err e) read = tt

both_bounded : (x y : Bool) → T (cond x y false) → T x × T y
both_bounded true true h = (tt, tt)
both_bounded true false h = absurd h
both_bounded false y h = absurd h

-- Two counts whose sum is finite.
pub both_finite : (a b : Count) → IsFinite (count_add a b) → IsFinite a × IsFinite b
both_finite a b h = both_bounded a.bounded b.bounded h
