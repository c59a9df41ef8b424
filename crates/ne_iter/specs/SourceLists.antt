-- The forms of clauses about the list that a source yields. `grind` finds such a clause by the
-- trigger of the source and its list (`list_trigger`), or by an equation of the new list with
-- itself (`Naming`).
use Rattle.std.specs.Prelude.{◌≡◌, ℕ, ◌<◌, ◌≤◌, ◌∷◌, drop, map, true, Some, List, length, Option}
use Rattle.std.specs.Prelude.{slice_index_or, take}
use Rattle.std.specs.Iterator.Runs.{Run, EachRunFrom, ItemsMapTo}
use Rattle.std.specs.Bool.{OnFalse}
use Rattle.std.specs.Option.{option_map}
use Rattle.ne_vec.specs.Lists.{EachList, EachView, Listed, Lists, View}
use Rattle.ne_vec.specs.Lists.{YieldsPrefixes, itself}

-- The items of a run, through `view`, are a prefix of xs, and all of xs if the run is whole. The
-- form is that of a clause of std's iterators.
abbrev pub MeetsPrefix : {S A B : Type 0} {steps : S → Option A → S → Type 0} → Run steps → (A → B)
    → List B → Type 0
MeetsPrefix {B = B} p view xs = (p.len ≤ length xs) × (p.whole ≡ true → p.len ≡ length xs)
    × ((k : ℕ) (d : B) → k < p.len → option_map view (p.at k) ≡ Some (slice_index_or xs k d))

-- The source yields xs through `view`, according to a clause of its iterator. It is for sources
-- whose list is stated by no clause of this crate, such as a `Vec`.
abbrev pub MeetsList : {U S A : Type 0} → (U → S → Type 0) → (S → Option A → S → Type 0)
    → (view : View A) → U → List view.Target → Type 0
MeetsList {S = S} becomes steps view u xs =
    (it : S) → becomes u it → EachRunFrom steps it (λ p. MeetsPrefix p view.of xs)

-- A value becomes a source whose items, through `view`, are xs.
abbrev pub BecomesList : {W V T A : Type 0} → (W → V → Type 0) → (V → T → Type 0)
    → (T → Option A → T → Type 0) → (view : View A) → W → List view.Target → Type 0
BecomesList {V = V} makes becomes steps view w xs =
    (v : V) → makes w v → Lists becomes steps view.of v xs

-- Each run of std's iterator `it`, through `view`, is a prefix of xs, and if it is whole all of xs.
-- The facts serve the automatic proof; so std's own adapters may be called on it.
abbrev pub StdYields : {S A : Type 0} → (S → Option A → S → Type 0) → (view : View A)
    → List view.Target → S → Type 0
StdYields steps view xs it = EachRunFrom steps it (λ p.
    (map view.of p.items ≡ take p.len xs) × ItemsMapTo p view.of xs)

-- P says which of the items of a source, themselves or through `view`, std's iterator `it` yields.
abbrev pub EachKept : {U S A : Type 0} (view : View A)
    → ((view : View A) → U → List view.Target → Type 0) → U → (S → Option A → S → Type 0) → S
    → ((view : View A) → List view.Target → (List view.Target → Type 0) → Type 0) → Type 0
EachKept view lists u steps it P =
    EachList (lists itself) u (λ xs. P itself xs (λ ys. YieldsPrefixes steps ys it))
    × OnFalse view.is_itself
    (EachList (lists view) u (λ xs. P view xs (λ ys. StdYields steps view ys it)))

-- `next` returns the first item, x, and an iterator, `rest`, that yields the others.
abbrev pub BeginsList : {U S A : Type 0} → (U → List A → Type 0) → (S → Option A → S → Type 0)
    → U → A → S → Type 0
BeginsList lists steps u x rest =
    EachList lists u (λ xs. (xs ≡ x ∷ drop 1 xs) × YieldsPrefixes steps (drop 1 xs) rest)

-- For the automatic proof, which seldom carries a list over by `r ≡ s`: the source r yields each
-- list that s yields, itself and through `view`.
abbrev pub KeepsLists : {U S A : Type 0} → (U → S → Type 0) → (S → Option A → S → Type 0) → View A
    → U → U → Type 0
KeepsLists becomes steps view s r = EachView view (λ view. Lists becomes steps view.of) s
    (λ view xs. Listed becomes steps view.of r xs)
