-- `chain`: its parts, and what it yields.
use Rattle.std.specs.Prelude.{◌≡◌, Bool, ◌||◌, ltb, List, ◌++◌, length, ◌+◌, ◌<◌, true, Option}
use Rattle.std.specs.Prelude.{false, Some, None, MatchOption}
use Rattle.std.specs.Iterator.Adapters.{chain_steps, chain_first as std_chain_first}
use Rattle.std.specs.Iterator.Adapters.{chain_second as std_chain_second, chain_first_done}
use Rattle.std.specs.Iterator.Adapters.{SecondAnswers}
use Rattle.std.specs.Iterator.Runs.{EachRunFrom, SomeRun}
use Rattle.std.specs.declared.iter.Chain.{Chain as StdChain}
use Rattle.std.proofs.Common.{rules}
use Rattle.std.proofs.lemmas.Bool.{MatchBool-at_false}
use Rattle.ne_vec.specs.Lists.{Naming, EachList}
use Rattle.ne_iter.specs.declared.iter.chain.Chain.{Chain}
use Rattle.ne_iter.specs.Sources.{HasFirst}

-- The source that comes first.
abbrev pub chain_first : {A B : Type 0} → Chain A B → A
chain_first s = s.a

-- The source that comes after it.
abbrev pub chain_second : {A B : Type 0} → Chain A B → B
chain_second s = s.b

module _ {U A : Type 0} (reads : Bool → U → List A → Type 0) where
  -- zs are the items of the first source, to its end, and then those of the second.
  pub record IsChained {W : Type 0} (others : Bool → W → List A → Type 0) (source : U) (other : W)
      (whole : Bool) (zs : List A) : Type 0 where
    pub items : List A
    pub other_items : List A
    pub read : reads (whole || ltb 0 (length other_items)) source items
    pub read_other : others whole other other_items
    pub is : zs ≡ items ++ other_items

-- `chain` yields the items of xs, followed by those of a second source. `others` is the clause on
-- the list of the second source; `meets` serves if there is no clause.
abbrev pub ChainsLists : {W A : Type 0} → (W → List A → Type 0) → (W → List A → Type 0) → W
    → List A → (List A → Type 0) → Type 0
ChainsLists {A = A} others meets w xs gives = EachList others w (λ ys. gives (xs ++ ys))
    × ((ys : List A) → Naming (xs ++ ys) (λ zs. meets w ys → gives zs))

-- A run of what `chain` yields is a run of the first source, and then one of the second.
abbrev pub ChainsRuns : {S T A : Type 0} → (S → Option A → S → Type 0)
    → (T → Option A → T → Type 0) → S → T → StdChain S T → Type 0
ChainsRuns steps others a b it = EachRunFrom (chain_steps steps others) it (λ p.
    SomeRun steps a (λ u. SomeRun others b (λ v. (p.len ≡ u.len + v.len)
    × (p.items ≡ u.items ++ v.items) × (p.whole ≡ true → (u.whole ≡ true) × (v.whole ≡ true))
    × (0 < v.len → u.whole ≡ true))))

-- A chain whose first side has a first item.
module _ {S T A : Type 0} (steps : S → Option A → S → Type 0) (others : T → Option A → T → Type 0)
    (it : StdChain S T) (has : HasFirst steps (std_chain_first it)) (t : StdChain S T) where
  first_came : (o : Option A) → steps (std_chain_first it) o (std_chain_first t)
      → MatchOption o (SecondAnswers steps others it None t)
      (λ x. (None ≡ Some x) × (std_chain_second t ≡ std_chain_second it) ×
      (chain_first_done t ≡ false))
      → ⊥
  first_came None st h = has (std_chain_first t) st
  first_came (Some x) st h = let e = h.0 in search rules

pub HasFirst-chain : {S T A : Type 0} (steps : S → Option A → S → Type 0)
    (others : T → Option A → T → Type 0) (it : StdChain S T)
    → chain_first_done it ≡ false → HasFirst steps (std_chain_first it)
    → HasFirst (chain_steps steps others) it
HasFirst-chain steps others it fresh has t ended = let h = MatchBool-at_false _ _ fresh ended.1 in
    first_came steps others it has t h.0 h.1 h.2
