-- What `spread` and `spread_pairs` collect from the inner sources that a closure returns.
use Rattle.std.specs.Prelude.{◌≡◌, ◌≤◌, ℕ, Bool, true, ◌||◌, ◌&&◌, ltb, List, length, zip, IsTrue}
use Rattle.std.specs.Fn.{Mut}
use Rattle.std.specs.List.{enumerate_from}
use Rattle.ne_vec.specs.Divisions.{concat}
use Rattle.ne_iter.specs.Calls.{Calls}
use Rattle.ne_iter.specs.Flatten.{ReadsEach}

module _ {F W B C : Type 0} (inner : Bool → W → List B → Type 0) (complete : C → Bool)
    (collected : List (ℕ × B) → C → Type 0) where
  -- The lists follow one another. They have at most n items, each with its index. `whole` says
  -- whether there are fewer and c is complete. If `whole` is true, the lists have ended.
  -- c is made of the lists of the sources that f returns for the items xs.
  pub record JoinsResults {A : Type 0} (calls : Mut F (A × Unit {0}) W) (f : F) (n : ℕ)
      (xs : List A) (whole : Bool) (c : C) : Type 0 where
    pub sources : List W
    pub lists : List (List B)
    pub f_then : F
    pub called : Calls calls f xs sources f_then
    pub read_each : ReadsEach inner whole sources lists
    pub is_whole : whole ≡ complete c && ltb (length (concat lists)) n
    pub at_most : length (concat lists) ≤ n
    pub made : collected (enumerate_from 0 (concat lists)) c

-- If `whole` is true, the source has ended.
-- c is made of the lists of the sources that f returns for the items that the source yields.
pub record IsSpread {S A F W B C : Type 0} (reads : Bool → S → List A → Type 0)
    (calls : Mut F (A × Unit {0}) W) (inner : Bool → W → List B → Type 0) (complete : C → Bool)
    (collected : List (ℕ × B) → C → Type 0) (source : S) (f : F) (n : ℕ) (c : C) : Type 0 where
  pub items : List A
  pub whole : Bool
  pub read : reads whole source items
  pub joins : JoinsResults inner complete collected calls f n items whole c

-- If `whole` is true, one of the two sources has ended.
-- c is made of the lists of the sources that f returns for the pairs of items of two sources.
pub record IsSpreadOfPairs {S O A D F W B C : Type 0} (reads : Bool → S → List A → Type 0)
    (others : Bool → O → List D → Type 0) (calls : Mut F ((A × D) × Unit {0}) W)
    (inner : Bool → W → List B → Type 0) (complete : C → Bool)
    (collected : List (ℕ × B) → C → Type 0) (source : S) (other : O) (f : F) (n : ℕ) (c : C)
    : Type 0 where
  pub items : List A
  pub other_items : List D
  pub ended : Bool
  pub other_ended : Bool
  pub whole : Bool
  pub read : reads ended source items
  pub read_other : others other_ended other other_items
  pub as_many : length items ≡ length other_items
  pub one_ended : whole ≡ true → IsTrue (ended || other_ended)
  pub joins : JoinsResults inner complete collected calls f n (zip items other_items) whole c
