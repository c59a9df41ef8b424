-- One more item at the end of a list that is mapped.
use Rattle.std.proofs.Common.{ap}
use Rattle.std.specs.Prelude.{◌≡◌, List, [], ◌∷◌, ◌++◌, map, refl}

pub map-one_more : {A B : Type 0} (f : A → B) (ps ys : List A) (x : A)
    → map f (ps ++ ys) ++ f x ∷ [] ≡ map f (ps ++ (ys ++ x ∷ []))
map-one_more f [] [] x = refl
map-one_more f [] (y ∷ ys) x = ap (λ l. f y ∷ l) (map-one_more f [] ys x)
map-one_more f (p ∷ ps) ys x = ap (λ l. f p ∷ l) (map-one_more f ps ys x)
