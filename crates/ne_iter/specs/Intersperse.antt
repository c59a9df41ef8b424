-- `intersperse`: its parts, the list with separators, one call of its iterator, and what it yields.
use Rattle.std.specs.Prelude.{◌≡◌, ℕ, ◌+◌, ◌*◌, Bool, false, List, [], ◌∷◌, map, true, Option, None}
use Rattle.std.specs.Prelude.{Some, MatchOption, IsSomeAnd, Result, Ok, MatchResult, ◌&&◌, ◌++◌}
use Rattle.std.specs.Prelude.{is_ok, length, ◌-◌}
use Rattle.std.specs.Bool.{MatchBool}
use Rattle.std.specs.Option.{option_len}
use Rattle.std.specs.Iterator.{Count, count_map, count_unless}
use Rattle.std.specs.Iterator.Runs.{EachRunFrom, SomeRun}
use Rattle.std.specs.List.{flat_map, join_by, list_all}
use Rattle.std.specs.declared.alloc.AllocError.{AllocError}
use Rattle.std.proofs.Common.{rules}
use Rattle.std.proofs.lemmas.Bool.{MatchBool-at_false}
use Rattle.std.proofs.lemmas.Option.{MatchOption-at_some}
use Rattle.ne_vec.specs.Lists.{Naming}
use Rattle.ne_iter.specs.declared.iter.intersperse.Intersperse.{Intersperse}
use Rattle.ne_iter.specs.Cloned.{TriesClone}
use Rattle.ne_iter.specs.declared.iter.intersperse.RawIntersperse.{RawIntersperse}
use Rattle.ne_iter.specs.Sources.{HasFirst}

-- The item that an `Intersperse` has taken.
abbrev pub intersperse_first : {S X : Type 0} → Intersperse S X → X
intersperse_first s = s.first

-- The iterator over what follows the first item.
abbrev pub intersperse_rest : {S X : Type 0} → Intersperse S X → S
intersperse_rest s = s.rest

-- The separator.
abbrev pub intersperse_separator : {S X : Type 0} → Intersperse S X → X
intersperse_separator s = s.separator

-- zs are the items xs, each in `Ok`, with a result of cloning the separator, of which `clones`
-- holds, between each two. They end at the first clone that failed.
abbrev pub Interspersed : {A E : Type 0} → (Result A E → Type 0) → List A → List (Result A E)
    → Type 0
Interspersed clones [] zs = zs ≡ []
Interspersed clones (x ∷ []) zs = zs ≡ Ok x ∷ []
Interspersed {A} {E} clones (x ∷ y ∷ xs) zs = (c : Result A E) × (more : List (Result A E))
    × clones c
    × (zs ≡ Ok x ∷ c ∷ more)
    × MatchResult c (λ _. Interspersed clones (y ∷ xs) more) (λ _. more ≡ [])

-- xs with s between each two of its items: std's `join` of lists of one item each.
abbrev pub interspersed : {A : Type 0} → A → List A → List A
interspersed s xs = join_by (λ x. x ∷ []) (s ∷ []) xs

-- For the automatic proof: how many items there are with the separators; and the lists that f makes
-- of all these, one after the other, are std's `join` of the items, for an f that gives the bytes
-- of texts.
abbrev pub JoinsLists : {A : Type 0} → A → List A → Type 0
JoinsLists {A} s xs = (length (interspersed s xs) ≡ 2 * length xs - 1)
    × ((f : A → List ℕ) → flat_map f (interspersed s xs) ≡ join_by f (f s) xs)

-- For the automatic proof: if `map Ok values` equals `map Ok (interspersed s xs)`, `values` equals
-- `interspersed s xs`.
abbrev pub OnlyItsValues : {A : Type 0} → Type 0 → A → List A → Type 0
OnlyItsValues {A} E s xs = (values : List A)
    → map {B = Result A E} Ok (interspersed s xs) ≡ map Ok values
    → Naming (map {B = Result A E} Ok values) (λ _. values ≡ interspersed s xs)

-- The iterator that a `RawIntersperse` takes items from.
abbrev pub drawn_from : {I X : Type 0} → RawIntersperse I X → I
drawn_from s = s.iter

-- The separator, which is cloned.
abbrev pub clones_of : {I X : Type 0} → RawIntersperse I X → X
clones_of s = s.separator

-- The item that was taken and is returned next, if there is one.
abbrev pub in_hand : {I X : Type 0} → RawIntersperse I X → Option X
in_hand s = s.next

-- Whether a clone failed.
abbrev pub is_over : {I X : Type 0} → RawIntersperse I X → Bool
is_over s = s.is_over

-- How many items are left at most: the one held, and two for each that the source has left.
abbrev pub interspersed_left : {I X : Type 0} → (I → Count) → RawIntersperse I X → Count
interspersed_left left s = count_unless (is_over s)
    (count_map (λ n. 2 * n + option_len (in_hand s)) (left (drawn_from s)))

module _ {S A E : Type 0} (steps : S → Option A → S → Type 0) (tries : A → Result A E → Type 0)
  where
    -- A call when no item is held: the next item is taken, and held unless the clone of the
    -- separator failed. The result is that of the clone, or `None` if there is no next item.
    abbrev pub DrawsNext : RawIntersperse S A → Option (Result A E) → RawIntersperse S A → Type 0
    DrawsNext s r t = (o : Option A) × steps (drawn_from s) o (drawn_from t)
        × MatchOption o ((r ≡ None) × (in_hand t ≡ None) × (is_over t ≡ false))
        (λ x. IsSomeAnd r (λ c. tries (clones_of s) c
        × MatchResult c (λ _. (in_hand t ≡ Some x) × (is_over t ≡ false))
        (λ _. is_over t ≡ true)))

    -- The item x, which is held, is returned.
    pub record GivesHeld (s : RawIntersperse S A) (r : Option (Result A E))
        (t : RawIntersperse S A) (x : A) : Type 0 where
      pub returns : r ≡ Some (Ok x)
      pub draws_none : drawn_from t ≡ drawn_from s
      pub in_hand_then : in_hand t ≡ None
      pub is_on : is_over t ≡ false

    -- One call of `next` returns the item that is held, or, if none is, what `DrawsNext` says.
    -- After a failed clone it returns `None`.
    abbrev pub InterspersesNext : RawIntersperse S A → Option (Result A E) → RawIntersperse S A
        → Type 0
    InterspersesNext s r t = (clones_of t ≡ clones_of s)
        × MatchBool (is_over s) ((r ≡ None) × (t ≡ s))
        (MatchOption (in_hand s) (DrawsNext s r t) (GivesHeld s r t))

-- Each run of `it` has a run of `rest`, whose items are yielded after x. If clones of the separator
-- s equal it and cannot fail, a whole run yields x and those items, with s between each two, each
-- in `Ok`, and no other list of values, each in `Ok`, equals its items.
abbrev pub IntersperseRuns : {S A : Type 0} → (S → Option A → S → Type 0) → (A → A → Type 0)
    → (A → Type 0) → A → A → S → RawIntersperse S A → Type 0
IntersperseRuns {S} {A} steps clones infallible s x rest it =
    EachRunFrom (InterspersesNext steps (TriesClone {E = AllocError} clones infallible)) it (λ p.
    SomeRun steps rest (λ q.
    infallible s → ((y z : A) → clones y z → z ≡ y) → p.whole ≡ true → (q.whole ≡ true)
    × (p.items ≡ map Ok (interspersed s (x ∷ q.items)))
    × ((values : List A) → p.items ≡ map Ok values
    → Naming (map {B = Result A AllocError} Ok values)
    (λ _. values ≡ interspersed s (x ∷ q.items)))))

module _ {U A : Type 0} (reads : Bool → U → List A → Type 0) where
  -- zs are the items, each in `Ok`, with a result of cloning the separator between each two: a
  -- prefix of them, and all if `whole` is true. The source has then ended too, unless a clone
  -- failed.
  pub record IsInterspersed {E : Type 0} (tries : A → Result A E → Type 0) (source : U)
      (separator : A) (whole : Bool) (zs : List (Result A E)) : Type 0 where
    pub items : List A
    -- The results that are not yielded yet.
    pub later : List (Result A E)
    pub read : reads (whole && list_all is_ok zs) source items
    pub spaced : Interspersed (tries separator) items (zs ++ later)
    pub over : whole ≡ true → later ≡ []

module _ {S A E : Type 0} (steps : S → Option A → S → Type 0) (tries : A → Result A E → Type 0)
  where
    pub HasFirst-interspersed : (s : RawIntersperse S A) (x : A) → in_hand s ≡ Some x
        → is_over s ≡ false → HasFirst (InterspersesNext steps tries) s
    HasFirst-interspersed s x hand fresh t ended =
        let e = (MatchOption-at_some _ _ x hand (MatchBool-at_false _ _ fresh ended.1)).returns in
        search rules
