-- From a run of an iterator that has peeked to the list that it yields.
use Rattle.std.proofs.Common.{rules, subst, sym, ap, ◌∙◌, refl, arith}
use Rattle.std.specs.Prelude.{◌≡◌, List, [], ◌∷◌, Option, Some, None, MatchOption, true, is_some}
use Rattle.std.specs.Prelude.{false, length}
use Rattle.std.specs.Option.{option_copied}
use Rattle.std.specs.Borrow.{Bor}
use Rattle.std.specs.Iterator.{DrainsIf}
use Rattle.std.specs.Iterator.Adapters.{peekable_source, peekable_peeked, peekable_steps, PeeksNext}
use Rattle.std.specs.declared.iter.Ahead.{Ahead}
use Rattle.ne_vec.specs.Lists.{YieldsItems, Lists}
use Rattle.ne_vec.specs.ListLaws.{triggered}
use Rattle.ne_iter.specs.Peeked.{HasFirst-peeked, is_item, has_peeked}
use Rattle.ne_iter.specs.TryInto.{PeeksWhole, PeeksLists}
use Rattle.ne_iter.specs.Sources.{Reads}
use Rattle.ne_iter.specs.LoopLaws.{lists_read}
use Rattle.ne_iter.proofs.SourceLists.{read_lists}

at_none : {B : Type 0} (p : Option B) (P : Type 0) (Q : B → Type 0) → p ≡ None → MatchOption p P Q
    → P
at_none p P Q e h = subst (λ o. MatchOption o P Q) e h

at_some : {B : Type 0} (p : Option B) (b : B) (P : Type 0) (Q : B → Type 0) → p ≡ Some b
    → MatchOption p P Q → Q b
at_some p b P Q e h = subst (λ o. MatchOption o P Q) e h

module _ {S A : Type 0} (steps : S → Option A → S → Type 0) where
  unpeeked : {W : Type 0} (s : Ahead S A) (xs : List A) → peekable_peeked s ≡ None
      → DrainsIf (peekable_steps steps) W s xs → DrainsIf steps W (peekable_source s) xs
  unpeeked s [] fresh (t, e, fin) = (
    peekable_source t,
    ap peekable_source e,
    λ w. (
      peekable_source (fin w).0,
      at_none (peekable_peeked t) _ _
          (sym (ap peekable_peeked e) ∙ fresh) (fin w).1.1,
    ),
  )
  unpeeked s (x ∷ xs) fresh (t, (j, st, rest), fin) =
      let more = unpeeked j xs st.0 (t, rest, fin) in
      (more.0, (peekable_source j, at_none (peekable_peeked s) _ _ fresh st.1, more.1), more.2)

  abbrev Holds : S → Ahead S A → Type 0
  Holds it v = (x : A) × steps it (Some x) (peekable_source v) × (peekable_peeked v ≡ Some (Some x))

  drawn : (it : S) (v : Ahead S A) (o : Option A) → is_item (Some o) ≡ true
      → steps it o (peekable_source v) → peekable_peeked v ≡ Some o → Holds it v
  drawn it v None h st e = let h = h in search rules
  drawn it v (Some x) h st e = (x, st, e)

  pub looked : (it : S) (s v : Ahead S A) → peekable_source s ≡ it → peekable_peeked s ≡ None
      → PeeksNext steps s v → has_peeked v ≡ true → Holds it v
  looked it s v from fresh p h =
      drawn it v p.0 (sym (ap is_item p.2) ∙ h)
      (subst (λ q. steps q p.0 (peekable_source v)) from
      (at_none (peekable_peeked s) _ _ fresh p.1)) p.2

  pub DrainsIf-peeked : {W : Type 0} (it : S) (v : Ahead S A) (xs : List A) → Holds it v
      → has_peeked v ≡ true → DrainsIf (peekable_steps steps) W v xs → DrainsIf steps W it xs
  DrainsIf-peeked it v [] h full (t, e, fin) = (
    it,
    refl,
    λ w.
        absurd (HasFirst-peeked steps t (subst (λ q. has_peeked q ≡ true) e full) (fin w).0
        (fin w).1),
  )
  DrainsIf-peeked it v (y ∷ ys) h full (t, (j, st, rest), fin) =
      let more = unpeeked j ys st.0 (t, rest, fin) in
      let same = at_some (peekable_peeked v) _ _ _ h.2 st.1 in (
        more.0,
        (
          peekable_source j,
          (let a = same.0 in
              subst (λ q. steps it q (peekable_source j)) (sym a)
              (subst (λ q. steps it (Some h.0) q) (sym same.1) h.1)),
          more.1,
        ),
        more.2,
      )

  pub reads_peeked : {W : Type 0} (it : S) (v u : Ahead S A) (xs : List A) → u ≡ v → Holds it v
      → has_peeked v ≡ true → DrainsIf (peekable_steps steps) W u xs → DrainsIf steps W it xs
  reads_peeked {W} it v u xs e h full k = DrainsIf-peeked it v xs h full
      (subst (λ q. DrainsIf (peekable_steps steps) W q xs) e k)

pub found : {A : Type 0} (p : Option (Option A)) (o : Option (Bor A)) → p ≡ Some (option_copied o)
    → is_some o ≡ true → is_item p ≡ true
found p None e h = let h = h in search rules
found p (Some x) e h = ap is_item e

-- The facts found about a source, stated for the list that it yields.
module _ {U S V T A : Type 0} (becomes : U → S → Type 0) (steps : S → Option A → S → Type 0)
    (made : V → T → Type 0) (next : T → Option A → T → Type 0) (u : U) where
  pub peeks_lists : (result : Option V)
      → PeeksWhole (Reads becomes steps) (Reads made next) u result
      → PeeksLists (Lists becomes steps (λ x. x)) (YieldsItems made next) u result
  unfolding PeeksWhole
  peeks_lists None looks = λ xs lists.
      let f = lists_read becomes steps u xs lists true [] looks in (triggered u xs, f.1 ∙ f.2 refl)
  peeks_lists (Some v) looks = λ xs lists.
      let list = lists_read becomes steps u xs lists in
      let f = list false (looks.0.0 ∷ []) looks.0.1 in
      let long = ap length f.1 in (
        triggered u xs,
        (
          omega (arith, long),
          read_lists made next v xs (λ whole ys read. list whole ys (looks.1 whole ys read)),
        ),
      )
