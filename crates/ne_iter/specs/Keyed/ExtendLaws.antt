-- Proofs, for the crates of maps and sets, that `extend` adds the list that its source yields.
use Rattle.std.proofs.Common.{ap, append-nil, refl, subst, sym, ◌∙◌}
use Rattle.std.proofs.iter.runs.Made.{run, to_end}
use Rattle.std.proofs.lemmas.List.{same_lists}
use Rattle.std.proofs.lemmas.Option.{same_Some, slice_get-get_or}
use Rattle.std.specs.Prelude.{◌≡◌, ◌++◌, true, List, Option, Result, Ok, Err, OnOk}
use Rattle.std.specs.Iterator.{Drains, ExtendsWithItems}
use Rattle.std.specs.Option.{option_map}
use Rattle.ne_vec.specs.Lists.{Lists, itself}
use Rattle.ne_vec.specs.ListLaws.{triggered, of_lists}
use Rattle.ne_iter.specs.Keyed.Extends.{ExtendsByList}
use Rattle.ne_iter.specs.SourceLists.{MeetsList}

module _ {U S A : Type 0} (becomes : U → S → Type 0) (steps : S → Option A → S → Type 0) (u : U)
  where
    whole_list : (xs : List A) → Lists becomes steps (λ x. x) u xs → (it : S) → becomes u it
        → (ys : List A)
        → Drains steps it ys → ys ≡ xs
    whole_list xs lists it made ys drains =
        let f = of_lists becomes steps u xs lists it made true ys (to_end steps it ys drains) in
        sym (f.1 ∙ ap (λ l. ys ++ l) (f.2 refl) ∙ append-nil ys)

    whole_met : (xs : List A) → MeetsList becomes steps itself u xs → (it : S) → becomes u it
        → (ys : List A) → Drains steps it ys → ys ≡ xs
    whole_met xs meets it made ys drains =
        let p = run steps it ys true (to_end steps it ys drains) in
        let f = meets it made p p.seen refl in
        same_lists ys xs (f.1 refl) (λ k d l.
        same_Some _ _ (sym (ap (option_map (λ y. y)) (slice_get-get_or ys k d l)) ∙ f.2 k d l))

    pub extends_by_list : {B E : Type 0} (extends : B → List A → B → Type 0) (b c : B)
        (result : Result (Unit {0}) E) (old : List A) (makes : List A → Type 0)
        → ((ys : List A) → extends b ys c → makes (old ++ ys))
        → ExtendsWithItems becomes steps extends u b c result
        → OnOk result (ExtendsByList (Lists becomes steps (λ x. x)) (MeetsList becomes steps
        itself) u old makes)
    extends_by_list extends b c (Err e) old makes made ran = tt
    extends_by_list extends b c (Ok _) old makes made ran =
        let all : (xs : List A) → ran.1 ≡ xs → makes (old ++ xs) = λ xs same.
        subst (λ l. makes (old ++ l)) same (made ran.1 ran.3) in (
          (λ xs lists. (triggered u xs, all xs (whole_list xs lists ran.0 ran.2 ran.1 ran.4))),
          (λ xs. (refl, λ meets. all xs (whole_met xs meets ran.0 ran.2 ran.1 ran.4))),
        )
