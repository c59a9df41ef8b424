-- The entries of an `NEIndexMap`, or the items of an `NEIndexSet`, after one more is inserted.
use Rattle.std.specs.Prelude.{Bool, List, [], ◌∷◌, if◌then◌else◌}

module _ {K : Type 0} (eq : K → K → Bool) where
  -- The entries after v is inserted at k: an equal key stays, in its place; a new one goes last.
  abbrev pub put_entry : {V : Type 0} → List (K × V) → K → V → List (K × V)
  put_entry [] k v = (k, v) ∷ []
  put_entry (e ∷ es) k v = if eq k e.0 then (e.0, v) ∷ es else e ∷ put_entry es k v

  -- The items after x is inserted: an equal item stays, in its place; a new one goes last.
  abbrev pub put_item : List K → K → List K
  put_item [] x = x ∷ []
  put_item (y ∷ ys) x = if eq x y then y ∷ ys else y ∷ put_item ys x

  -- The items after x replaces an equal item, in its place; a new one goes last.
  abbrev pub put_in_place : List K → K → List K
  put_in_place [] x = x ∷ []
  put_in_place (y ∷ ys) x = if eq x y then x ∷ ys else y ∷ put_in_place ys x
