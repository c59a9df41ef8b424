-- What is known of an iterator by value over an `NEBTreeMap` or `NEBTreeSet`: the facts of such
-- iterators over any map or set, and that the keys ascend.
use Rattle.std.specs.Prelude.{List}
use Rattle.std.specs.List.Sorted.{IsStrictlySortedBy}
use Rattle.std.specs.Map.{keys_of}
use Rattle.std.specs.declared.cmp.Ordering.{Ordering}
use Rattle.ne_iter.specs.Keyed.Iterators.{KnownByValue}

-- What is known of entries by value, as of any map, and that the keys ascend.
abbrev pub EntriesInOrder : {K V : Type 0} → (K → K → Ordering) → List (K × V) → Type 0
EntriesInOrder cmp es = KnownByValue es × IsStrictlySortedBy cmp (keys_of es)

-- What is known of items by value, as of any set, and that they ascend.
abbrev pub ItemsInOrder : {T : Type 0} → (T → T → Ordering) → List T → Type 0
ItemsInOrder cmp xs = KnownByValue xs × IsStrictlySortedBy cmp xs
