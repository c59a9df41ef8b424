-- The result of `try_into_nonempty_iter`.
use Rattle.std.specs.Prelude.{◌≡◌, Option, MatchOption, IfSome, List, [], ◌∷◌, Bool, true, false}
use Rattle.std.specs.Prelude.{◌<◌, length}
use Rattle.std.specs.Iterator.Runs.{EachRunFrom, IsIdenticalRun}
use Rattle.ne_vec.specs.Lists.{EachList}
use Rattle.ne_iter.specs.declared.iter.try_into.PeeksAhead.{Ghosts}
use Rattle.ne_iter.specs.declared.iter.try_into.NonEmptyIterAdapter.{NonEmptyIterAdapter}
use Rattle.ne_iter.specs.Sources.{SomeRunOf, WholeRunOf}

-- The iterator in which an item was found.
abbrev pub peeked_iterator : {I : Type 0} {looks : Ghosts I} → NonEmptyIterAdapter I looks → I
peeked_iterator s = s.inner

-- A result in `Some` is a source of the source's items, of which there is at least one. If the
-- result is `None`, the source may end at once.
unfoldable pub PeeksWhole : {U V A : Type 0} → (Bool → U → List A → Type 0)
    → (Bool → V → List A → Type 0) → U → Option V → Type 0
PeeksWhole {A = A} reads looked source result = MatchOption result (reads true source [])
    (λ v. ((x : A) × reads false source (x ∷ []))
    × ((whole : Bool) (xs : List A) → looked whole v xs → reads whole source xs))

-- Each run of the returned iterator has a run of the source with the same items, of which one
-- yields an item. If the result is `None`, a run of the source ended at once.
abbrev pub PeeksRuns : {U V S T A : Type 0} → (U → S → Type 0) → (S → Option A → S → Type 0)
    → (T → Option A → T → Type 0) → (V → T) → U → Option V → Type 0
PeeksRuns becomes steps peeked_steps iterator_of source result = MatchOption result
    (WholeRunOf becomes steps source (λ q. (q.len ≡ 0) × (q.items ≡ [])))
    (λ v. EachRunFrom peeked_steps (iterator_of v) (λ p.
    SomeRunOf becomes steps source (λ q. IsIdenticalRun p q))
    × SomeRunOf becomes steps source (λ q. q.len ≡ 1))

-- If the source may be called until it ends, so may the result.
abbrev pub PeeksEnds : {U V : Type 0} → (U → Type 0) → (V → Type 0) → U → Option V → Type 0
PeeksEnds runs ends_peeked source result = runs source → IfSome result ends_peeked

-- `try_into_nonempty_iter` returns `None` if the list is empty, and else a source that yields it.
abbrev pub PeeksLists : {U V A : Type 0} → (U → List A → Type 0) → (V → List A → Type 0) → U
    → Option V → Type 0
PeeksLists lists gives u result = MatchOption result (EachList lists u (λ xs. xs ≡ []))
    (λ v. EachList lists u (λ xs. (0 < length xs) × gives v xs))
