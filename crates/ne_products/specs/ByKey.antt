-- What is made of the items of a source by their keys: for each key the fold or the sum of its
-- items, the list of them, or their number. `value` is what a map has at each key.
use Rattle.std.specs.Prelude.{◌≡◌, ◌<◌, ◌+◌, ◌^◌, ℕ, Bool, List, [], ◌∷◌, ◌++◌, Option, Some, None}
use Rattle.std.specs.Prelude.{length, map}
use Rattle.std.specs.Borrow.{Bor}
use Rattle.std.specs.Fn.{Called, CalledAt, Mut, Takes, TakesAt}
use Rattle.std.specs.Iterator.{ActsAs, CallableAtEachTurn, Drains}
use Rattle.std.specs.List.{FoldsTo, filter, fold, sum_by}
use Rattle.std.specs.Option.{option_map, unwrap_or}
use Rattle.ne_vec.specs.Lists.{View}
use Rattle.ne_iter.specs.KeyedMap.{PutsValue}

-- What `make` makes of the items, if there is one.
abbrev pub of_some : {A B : Type 0} → (List A → B) → List A → Option B
of_some make [] = None
of_some make (x ∷ xs) = Some (make (x ∷ xs))

-- The fold of the items, if there is one.
abbrev pub fold_some : {A B : Type 0} → (B → A → B) → B → List A → Option B
fold_some f init [] = None
fold_some f init (x ∷ xs) = Some (fold f init (x ∷ xs))

-- The value of each key is the fold of the items with that key, in their order.
abbrev pub IsFoldedByKey : {A B K : Type 0} → (K → Option B) → (K → K → Bool) → (A → K)
    → (B → A → B) → B → List A → Type 0
IsFoldedByKey {K = K} value eq key f init xs = (q : K)
    → value q ≡ fold_some f init (filter (λ x. eq q (key x)) xs)

-- The value of each key, its items seen through `view`, is the items with that key, in their order.
abbrev pub IsGroupedByKey : {A K : Type 0} → (K → Option (List A)) → (K → K → Bool)
    → (view : View A) → (view.Target → K) → List view.Target → Type 0
IsGroupedByKey {K = K} value eq view key xs = (q : K)
    → option_map (map view.of) (value q) ≡ of_some (λ ys. ys) (filter (λ x. eq q (key x)) xs)

-- The value of each key is the number of the items that are equal to it.
abbrev pub IsCounted : {K : Type 0} → (K → Option ℕ) → (K → K → Bool) → List K → Type 0
IsCounted {K} value eq xs = (q : K) → value q ≡ of_some length (filter (eq q) xs)

-- The list, followed by x.
abbrev pub and_last : {A : Type 0} → List A → A → List A
and_last xs x = xs ++ x ∷ []

-- f, called at a `&` to an item, returns the key that h gives, seen through `view`, and is not
-- changed.
abbrev pub NamesKeys : {A K F : Type 0} → Mut F (Bor A × Unit {0}) K → (view : View K) → F
    → (A → view.Target) → Type 0
NamesKeys {A} {K} {F} keys view f h = (x : A) (k : K) (g : F) → CalledAt keys f x k g
    → (g ≡ f) × (view.of k ≡ h x)

module _ {A K B F G : Type 0} (keys : Mut F (Bor A × Unit {0}) K)
    (adds : G → B → A → B → G → Type 0)
    (view : View K) (eq : view.Target → view.Target → Bool) (init : B) where
  -- The closure for keys, what adds, and the value of each key so far.
  abbrev State : Type 0
  State = F × (G × (view.Target → Option B))

  -- One item: its key is asked for, and gets the value that is made of its value so far, or of
  -- `init`, and of the item.
  abbrev pub KeyTurn : State → A → State → Type 0
  KeyTurn p x q = (k : K) × (v : B) × CalledAt keys p.0 x k q.0
      × adds p.1.0 (unwrap_or (p.1.1 (view.of k)) init) x v q.1.0
      × PutsValue eq p.1.1 (view.of k) v q.1.1

  -- The turns over all items of the iterator, from no value at all, made `value`. `grind` does not
  -- unfold it.
  unfoldable pub FoldsByKey : {S : Type 0} → (S → Option A → S → Type 0) → S → F → G
      → (view.Target → Option B) → Type 0
  FoldsByKey steps it key g value = (xs : List A) × (key' : F) × (g' : G) × Drains steps it xs
      × FoldsTo {P = State} KeyTurn (key, (g, λ _. None)) xs (key', (g', value))

-- One item is added to a value: the closure is called with both.
abbrev pub AddsByCall : {A B G : Type 0} → Mut G (B × (A × Unit {0})) B → G → B → A → B → G → Type 0
AddsByCall calls g so_far x v h = Called calls g (so_far, (x, tt)) v h

-- One item is added to a sum: the closure is called with it, and returns what is added.
abbrev pub AddsValue : {A G : Type 0} → Mut G (A × Unit {0}) ℕ → G → ℕ → A → ℕ → G → Type 0
AddsValue calls g so_far x v h = (n : ℕ) × Called calls g (x, tt) n h × (v ≡ so_far + n)

-- One item is added to a group: it is its last one.
abbrev pub AddsLast : {A : Type 0} → Unit {0} → List A → A → List A → Unit {0} → Type 0
AddsLast g so_far x v h = v ≡ and_last so_far x

-- Both closures may be called at each turn: the one for keys with the item, and the one for values
-- with the value so far and the item.
abbrev pub CallableByKey : {S A K B F G : Type 0} → (S → Option A → S → Type 0)
    → Mut F (Bor A × Unit {0}) K → Mut G (B × (A × Unit {0})) B → (view : View K)
    → (view.Target → view.Target → Bool) → S → F → B → G → Type 0
CallableByKey {K = K} {B = B} {F = F} {G = G} steps keys calls view eq it key init f =
    CallableAtEachTurn {P = F × (G × (view.Target → Option B))} steps
    (KeyTurn keys (AddsByCall calls) view eq init)
    (λ p x. TakesAt keys p.0 x × ((k : K) (key' : F) → CalledAt keys p.0 x k key'
    → Takes calls p.1.0 (unwrap_or (p.1.1 (view.of k)) init, (x, tt)))) it (key, (f, λ _. None))

-- `add` adds a number of the item to the total, whatever the total is.
abbrev pub Adds : {A : Type 0} → (ℕ → A → ℕ) → Type 0
Adds {A} add = (total : ℕ) (x : A) → add total x ≡ total + add 0 x

-- The items of the source u through `view` are a list, the closure returns a number of each, and
-- the sum of these numbers fits in 64 bits.
abbrev pub SumFits : {U A G : Type 0} (view : View A)
    → ((view : View A) → U → List view.Target → Type 0) → U → Mut G (A × Unit {0}) ℕ → G → Type 0
SumFits view lists u calls f = (xs : List view.Target) × lists view u xs
    × (number : view.Target → ℕ) × (sum_by number xs < 2 ^ 64)
    × ActsAs calls f (λ x. number (view.of x))
