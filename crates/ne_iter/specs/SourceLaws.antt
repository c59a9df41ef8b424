-- Proofs of the laws of sources, which the implementations use.
use Rattle.std.proofs.Common.{arith, subst, sym}
use Rattle.std.specs.Prelude.{length, ◌<◌, true, List, Option, None, refl, [], ◌∷◌, ◌≡◌}
use Rattle.std.proofs.lemmas.Bool.{OnFalse_from}
use Rattle.ne_vec.specs.Lists.{View}
use Rattle.ne_vec.specs.ListLaws.{triggered}
use Rattle.ne_iter.specs.SourceLists.{KeepsLists}
use Rattle.ne_iter.specs.Sources.{SameLists, Reads, IsNonEmpty}

-- A source that is never empty yields no empty list.
pub some_item : {U S A : Type 0} (becomes : U → S → Type 0) (steps : S → Option A → S → Type 0)
    → IsNonEmpty becomes steps → (u : U) (xs : List A) → Reads becomes steps true u xs
    → 0 < length xs
some_item becomes steps full u [] h = let end = h.given.2 refl in
    absurd (full u h.it h.made end.0 (subst (λ it. steps it None end.0) (sym h.given.1) end.1))
some_item becomes steps full u (x ∷ xs) h = omega arith

-- A source that becomes one with the same iterators yields the same lists.
pub SameLists-through : {U S V A : Type 0} (becomes : U → S → Type 0)
    (steps : S → Option A → S → Type 0) (makes : U → V → Type 0) (becomes' : V → S → Type 0)
    → ((u : U) (it : S) → becomes u it → (v : V) × makes u v × becomes' v it)
    → ((u : U) (v : V) (it : S) → makes u v → becomes' v it → becomes u it)
    → SameLists becomes steps makes becomes' steps
SameLists-through becomes steps makes becomes' there back u whole xs = (
  (λ h. let m = there u h.it h.made in (
    m.0,
    m.1,
    record { it = h.it; made = m.2; given = h.given },
  )),
  (λ v e h. record { it = h.it; made = back u v h.it e h.made; given = h.given }),
)

-- A value that becomes what the source `value` of it becomes, and is made into that source.
pub SameLists-of : {U V S A : Type 0} (becomes : V → S → Type 0)
    (steps : S → Option A → S → Type 0) (value : U → V) (fact : U → V → Type 0)
    → ((u : U) → fact u (value u))
    → SameLists (λ u it. becomes (value u) it) steps (λ u v. (v ≡ value u) × fact u v) becomes steps
SameLists-of becomes steps value fact holds = SameLists-through _ _ _ _
    (λ u it made. (value u, (refl, holds u), made))
    (λ u v it same made. subst (λ w. becomes w it) same.0 made)

-- A source that becomes a non-empty source is non-empty itself.
pub IsNonEmpty-into : {U S V T A : Type 0} (becomes : U → S → Type 0)
    (steps : S → Option A → S → Type 0) (makes : U → V → Type 0) (becomes' : V → T → Type 0)
    (steps' : T → Option A → T → Type 0)
    → SameLists becomes steps makes becomes' steps' → IsNonEmpty becomes' steps'
    → IsNonEmpty becomes steps
IsNonEmpty-into becomes steps makes becomes' steps' same full u it made t ended =
    let p = (same u true []).0 (record {
      it = it;
      made = made;
      given = (it, refl, λ _. (t, ended));
    }) in
    let e = p.2.given.2 refl in
    full p.0 p.2.it p.2.made e.0 (subst (λ q. steps' q None e.0) (sym p.2.given.1) e.1)

-- A source yields the lists that it yields.
pub keeps_lists : {U S A : Type 0} (becomes : U → S → Type 0) (steps : S → Option A → S → Type 0)
    (view : View A) (s : U) → KeepsLists becomes steps view s s
keeps_lists becomes steps view s = (
  (λ xs known. (triggered s xs, (triggered s xs, known))),
  OnFalse_from view.is_itself _ (λ _ xs known. (triggered s xs, (triggered s xs, known))),
)
