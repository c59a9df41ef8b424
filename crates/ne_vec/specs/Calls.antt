-- The calls of a closure with the items of a list, and their results. A closure may have state, so
-- each call takes the closure as the call before left it.
use Rattle.std.specs.Prelude.{◌≡◌, List, [], ◌∷◌}
use Rattle.std.specs.Fn.{Called, Mut}

-- f, called with the items of xs, may return ys, and is then g.
abbrev pub Calls : {F A B : Type 0} → Mut F (A × Unit {0}) B → F → List A → List B → F → Type 0
Calls calls f [] [] g = f ≡ g
Calls calls f [] (y ∷ ys) g = ⊥
Calls calls f (x ∷ xs) [] g = ⊥
Calls {F = F} calls f (x ∷ xs) (y ∷ ys) g = (h : F) × Called calls f (x, tt) y h
    × Calls calls h xs ys g
