-- Whether std's `Peekable` holds an item that it has peeked at.
use Rattle.std.specs.Prelude.{◌≡◌, Option, None, Some, MatchOption, Bool, true, false}
use Rattle.std.specs.Iterator.Adapters.{peekable_peeked, peekable_source, peekable_steps}
use Rattle.std.specs.declared.iter.Ahead.{Ahead}
use Rattle.std.proofs.Common.{rules}
use Rattle.ne_iter.specs.Sources.{HasFirst}

-- An item was peeked at.
abbrev pub is_item : {X : Type 0} → Option (Option X) → Bool
is_item None = false
is_item (Some None) = false
is_item (Some (Some x)) = true

-- Whether the next item is held.
abbrev pub has_peeked : {I X : Type 0} → Ahead I X → Bool
has_peeked s = is_item (peekable_peeked s)

module _ {S A : Type 0} (steps : S → Option A → S → Type 0) (s t : Ahead S A) where
  not_none : (p : Option (Option A)) → is_item p ≡ true
      → MatchOption p (steps (peekable_source s) None (peekable_source t))
      (λ o. (◌≡◌ {A = Option A} None o) × (peekable_source t ≡ peekable_source s)) → ⊥
  not_none None e h = let e = e in search rules
  not_none (Some None) e h = let e = e in search rules
  not_none (Some (Some x)) e h = let f = h.0 in search rules

pub HasFirst-peeked : {S A : Type 0} (steps : S → Option A → S → Type 0) (s : Ahead S A)
    → has_peeked s ≡ true → HasFirst (peekable_steps steps) s
HasFirst-peeked steps s h t ended = not_none steps s t (peekable_peeked s) h ended.1
