-- Items with their keys: from the calls of a closure that pairs an item with its key to the calls
-- for the key, and the pair that is kept by the keys.
use Rattle.std.proofs.Common.{ap, subst, ◌∙◌, refl}
use Rattle.std.specs.Prelude.{◌≡◌, Bool, true, false, cond, List, [], ◌∷◌, map, Option}
use Rattle.std.specs.Borrow.{Bor}
use Rattle.std.specs.Fn.{Called, CalledAt, FnReturnsAtPair, Mut, Shared, Takes, TakesAt}
use Rattle.std.specs.Iterator.{CallableOnAll, CallableOnAllAt}
use Rattle.std.specs.List.{FoldsTo}
use Rattle.ne_iter.specs.Consumers.{KeepsBetter}
use Rattle.ne_iter.specs.Calls.{Calls, CallsEachAt}

-- An item with its key, from the key with its item.
abbrev pub keyed : {A B : Type 0} → B × A → A × B
keyed p = (p.1, p.0)

-- `key_calls` are the calls for the key, and `pairs` those of the closure that makes pairs.
-- `key_of` returns the state of the first closure within a state of the second.
module _ {A B F G : Type 0} (key_calls : Mut F (Bor A × Unit {0}) B)
    (pairs : Mut G (A × Unit {0}) (B × A)) (key_of : G → F)
    (each : (f : G) (x : A) (p : B × A) (g : G) → Called pairs f (x, tt) p g
    → (x ≡ p.1) × CalledAt key_calls (key_of f) x p.0 (key_of g)) where
  -- The pairs are made of the items that were yielded and the keys returned for them.
  pub CallsEachAt-pairs : (f : G) (xs : List A) (ps : List (B × A)) (g : G) → Calls pairs f xs ps g
      → (xs ≡ map (λ p. p.0) (map keyed ps))
      × CallsEachAt key_calls (key_of f) (map keyed ps) (key_of g)
  CallsEachAt-pairs f [] [] g e = (refl, ap key_of e)
  CallsEachAt-pairs f [] (p ∷ ps) g e = absurd e
  CallsEachAt-pairs f (x ∷ xs) [] g e = absurd e
  CallsEachAt-pairs f (x ∷ xs) (p ∷ ps) g (h, one, rest) =
      let first = each f x p h one in
      let more = CallsEachAt-pairs h xs ps g rest in
      let at = subst (λ y. CalledAt key_calls (key_of f) y p.0 (key_of h)) first.0 first.1 in
      ((let a = first.0 in let b = more.0 in cc), (key_of h, at, more.1))

  called_each : (f : G) (xs : List A) (g : G)
      → FoldsTo (λ p x q. (r : B × A) × Called pairs p (x, tt) r q) f xs g
      → FoldsTo (λ p x q. (r : B) × CalledAt key_calls p x r q) (key_of f) xs (key_of g)
  called_each f [] g e = ap key_of e
  called_each f (x ∷ xs) g (h, one, rest) =
      (key_of h, (one.0.0, (each f x one.0 h one.1).1), called_each h xs g rest)

  -- The closure that makes pairs may be called with each item whose key may be computed.
  pub CallableOnAll-pairs : ((f : G) (x : A)
      → TakesAt key_calls (key_of f) x → Takes pairs f (x, tt))
      → {S : Type 0} (steps : S → Option A → S → Type 0) (it : S) (f : G)
      → CallableOnAllAt steps key_calls it (key_of f) → CallableOnAll steps pairs it f
  CallableOnAll-pairs takes steps it f callable = record {
    at = λ xs t q x u run turns last.
        takes q x (callable.at xs t (key_of q) x u run (called_each f xs q turns) last);
  }

keyed_cond : {A B : Type 0} (t : Bool) (p q : B × A)
    → keyed (cond t p q) ≡ cond t (keyed p) (keyed q)
keyed_cond true p q = refl
keyed_cond false p q = refl

-- If each call of f on two pairs is a call of h on their keys, the same items are kept.
pub KeepsBetter-keyed : {A B F H : Type 0}
    (calls : Shared F (Bor (B × A) × (Bor (B × A) × Unit {0})) Bool) (f : F)
    (through : Shared H (Bor B × (Bor B × Unit {0})) Bool) (h : H)
    → ((v w : Bor (B × A)) (t : Bool) → calls.post f (v, (w, tt)) t
    → FnReturnsAtPair through h v.now.0 w.now.0 t)
    → (first : B × A) (xs : List (B × A)) (kept : B × A)
    → FoldsTo (KeepsBetter (λ p. p) calls f) first xs kept
    → FoldsTo (KeepsBetter (λ p. p.1) through h) (keyed first) (map keyed xs) (keyed kept)
KeepsBetter-keyed calls f through h each first [] kept e = ap keyed e
KeepsBetter-keyed calls f through h each first (x ∷ xs) kept (next, (t, says, e), rest) =
    let seen = each says.first says.second t says.says.met in
    let at : FnReturnsAtPair through h first.0 x.0 t = record {
      first = seen.first;
      second = seen.second;
      shows = (
        seen.shows.0 ∙ ap (λ p. p.0) says.shows.0,
        seen.shows.1 ∙ ap (λ p. p.0) says.shows.1,
      );
      says = seen.says;
    } in
    let more = KeepsBetter-keyed calls f through h each next xs kept rest in
    (keyed next, (t, at, ap keyed e ∙ keyed_cond t x first), more)
