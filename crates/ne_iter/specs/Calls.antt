-- The calls of a closure with the items of a list, in order, and their results. A closure may have
-- state, so each call takes the closure as the call before left it.
pub use Rattle.ne_vec.specs.Calls.{Calls}
use Rattle.std.specs.Prelude.{◌≡◌, List, [], ◌∷◌}
use Rattle.std.specs.Iterator.{FoldTurn}
use Rattle.std.specs.Fn.{Called, CalledAt, CalledWithState, Mut}
use Rattle.std.specs.List.{FoldsTo}
use Rattle.std.specs.Borrow.{Bor, MutBor}

-- f, called with references to the items of ps, may return the second parts of ps, and is then g.
abbrev pub CallsEachAt : {F A B : Type 0} → Mut F (Bor A × Unit {0}) B → F → List (A × B) → F → Type
    0
CallsEachAt calls f ps g = FoldsTo (λ p x q. CalledAt calls p x.0 x.1 q) f ps g

-- f, called with the items of xs, may return y each time, and is then g.
abbrev pub ReturnsEach : {F A B : Type 0} → Mut F (A × Unit {0}) B → B → F → List A → F → Type 0
ReturnsEach calls y f xs g = FoldsTo (λ p x q. Called calls p (x, tt) y q) f xs g

-- f, called with references to the items of xs, may return y each time, and is then g.
abbrev pub ReturnsEachAt : {F A B : Type 0} → Mut F (Bor A × Unit {0}) B → B → F → List A → F
    → Type 0
ReturnsEachAt calls y f xs g = FoldsTo (λ p x q. CalledAt calls p x y q) f xs g

-- f, called with the total and each item of xs, may take the total from init to r, and is then g.
abbrev pub Folds : {F A B : Type 0} → Mut F (B × (A × Unit {0})) B → F → B → List A → B → F → Type 0
Folds {F = F} {B = B} calls f init xs r g = FoldsTo {P = F × B} (FoldTurn calls) (f, init) xs (g, r)

-- f, called with the items of xs and a `&mut` to a state, may return ys, and is then g. The state
-- is s at the first call, at each later call what the call before left, and t at the end.
abbrev pub CallsWithState : {F S A B : Type 0}
    → Mut F (MutBor S × (A × Unit {0})) (B × (MutBor S × Unit {0}))
    → F → S → List A → List B → F → S → Type 0
CallsWithState calls f s [] [] g t = (f ≡ g) × (s ≡ t)
CallsWithState calls f s [] (y ∷ ys) g t = ⊥
CallsWithState calls f s (x ∷ xs) [] g t = ⊥
CallsWithState {F} {S} calls f s (x ∷ xs) (y ∷ ys) g t =
    (h : F) × (u : S) × CalledWithState calls f s x y h u × CallsWithState calls h u xs ys g t

-- Each call of f with the state s and x returns out s x, leaves the state next s x, and keeps f.
abbrev pub ActsAsWithState : {F S A B : Type 0}
    → Mut F (MutBor S × (A × Unit {0})) (B × (MutBor S × Unit {0}))
    → F → (S → A → S) → (S → A → B) → Type 0
ActsAsWithState {F} {S} {A} {B} calls f next out =
    (s : S) (x : A) (y : B) (g : F) (t : S) → CalledWithState calls f s x y g t
    → (g ≡ f) × (t ≡ next s x) × (y ≡ out s x)
