-- `enumerate`: its part, and what it yields.
use Rattle.std.specs.Prelude.{◌≡◌, ℕ, Bool, List, ◌≤◌, true, length, Option}
use Rattle.std.specs.Bool.{OnFalse}
use Rattle.std.specs.List.{enumerate_from}
use Rattle.std.specs.Iterator.Runs.{EachRunFrom}
use Rattle.ne_vec.specs.Lists.{View, itself, numbered, EachList}
use Rattle.ne_iter.specs.declared.iter.enumerate.Enumerate.{Enumerate}

-- The source of the items.
abbrev pub enumerate_source : {I : Type 0} → Enumerate I → I
enumerate_source s = s.iter

-- ys are pairs of an index, from 0, and the item of the source at that index.
abbrev pub IsEnumerated : {U A : Type 0} → (Bool → U → List A → Type 0) → U → Bool → List (ℕ × A)
    → Type 0
IsEnumerated {A = A} reads source whole ys = (xs : List A) × reads whole source xs
    × (ys ≡ enumerate_from 0 xs)

-- For the automatic proof: a run from v is at most as long as xs, and as long as xs if it is whole.
-- So `grind` needs no list of pairs of an adapter that numbers the items of xs.
abbrev pub CountsAs : {V T A B : Type 0} → (V → T → Type 0) → (T → Option B → T → Type 0) → V
    → List A → Type 0
CountsAs {T = T} becomes steps v xs = (it : T) → becomes v it → EachRunFrom steps it (λ p.
    (p.len ≤ length xs) × (p.whole ≡ true → p.len ≡ length xs))

-- `enumerate` yields the items of u, themselves or through `view`, each with its number.
abbrev pub NumbersLists : {U V T A : Type 0} (view : View A)
    → ((view : View A) → U → List view.Target → Type 0) → (V → List (ℕ × A) → Type 0)
    → ((view : View (ℕ × A)) → V → List view.Target → Type 0)
    → (V → T → Type 0) → (T → Option (ℕ × A) → T → Type 0) → U → V → Type 0
NumbersLists view lists yields_items yields_through becomes steps u v =
    EachList (lists itself) u (λ xs.
    yields_items v (enumerate_from 0 xs) × CountsAs becomes steps v xs)
    × OnFalse view.is_itself (EachList (lists view) u (λ xs.
    yields_through (numbered view) v (enumerate_from 0 xs) × CountsAs becomes steps v xs))
