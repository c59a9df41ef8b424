-- The value of a `Peekable` after a mutable borrow of its first item has ended.
use Rattle.std.specs.Borrow.{Lends, MutBor, Fml, RattleType}
use Rattle.ne_iter.specs.declared.iter.peekable.Peekable.{Peekable}
use Rattle.ne_iter.specs.Peekable.{with_first}
use Rattle.ne_iter.specs.contracts.iter.peekable.Peekable.{the_row}

-- Once the borrow r ends, the first item is the last value written through r.
abbrev pub lends_first : (I X : RattleType) → MutBor (Peekable I.Denot X.Denot) → MutBor X.Denot
    → Fml
lends_first I X s r = Lends (the_row I X) X s r (with_first s.now)
