-- What a hashed map or set holds after pairs or items are inserted one after the other.
use Rattle.std.specs.HashSet as set
use Rattle.std.proofs.Common.{Bool, List, ◌++◌}
use Rattle.std.specs.Cmp.{IsEquivalence}
use Rattle.std.specs.HashMap.{HashMap, InsertsAll, IsUnique}
use Rattle.std.specs.HashSet.{HashSet}
use Rattle.ne_iter.specs.Collected.{IsMapOfPairs, IsSetOf}
use Rattle.ne_iter.specs.CollectedLaws.{map_of-inserts, nonempty-inserts}
use Rattle.ne_iter.specs.CollectedLaws.{set_of-inserts, nonempty_set-inserts}
use Rattle.ne_hash.specs.ValidHashMap.{IsValid}
use Rattle.ne_hash.specs.ValidHashSet.{IsValid as AreValid}

-- Pairs inserted one after the other.
module _ {K V S : Type 0} {eq : K → K → Bool} (laws : IsEquivalence eq) (m n : HashMap K V S)
    (xs : List (K × V)) (x : InsertsAll eq m xs n) where
  pub map_of-inserts_all : IsUnique eq m → IsMapOfPairs eq (m.entries ++ xs) n.entries
  map_of-inserts_all u = map_of-inserts laws m.entries n.entries xs x.0 u x.1

  pub valid-inserts_all : IsValid eq m → IsValid eq n
  valid-inserts_all v = (
    nonempty-inserts laws m.entries n.entries xs x.0 v.0,
    (map_of-inserts_all v.1).0,
  )

-- Items inserted one after the other.
module _ {T S : Type 0} {eq : T → T → Bool} (laws : IsEquivalence eq) (s t : HashSet T S)
    (xs : List T) (x : set.InsertsAll eq s xs t) where
  pub set_of-inserts_all : IsSetOf eq (s.keys ++ xs) t.keys
  set_of-inserts_all = set_of-inserts laws s.keys xs t.keys x.0 x.1

  pub valid_set-inserts_all : AreValid eq s → AreValid eq t
  valid_set-inserts_all v = (
    nonempty_set-inserts laws s.keys xs t.keys x.0 v.0,
    set_of-inserts_all.0,
  )
