-- The source has an item, and a character has a byte.
use Rattle.std.proofs.Common.{ap, arith, length, sym}
use Rattle.std.proofs.lemmas.Str.{IsUtf8-string_bytes, chars_from_encodes, length-le-encodes}
use Rattle.ne_iter.specs.SourceLaws.{IsNonEmpty-into, some_item}
use Rattle.ne_string.proofs.string.traits.NEStringFromNonEmptyIteratorChar.from_nonempty_iter.Goals
    as goal

pub invariant_of-result : goal.invariant_of-result
invariant_of-result g c =
    let made = c.in_ok-inner.ensures in
    let full = IsNonEmpty-into _ _ _ _ _ g.met.I.IntoNonEmptyIterator.same_lists
    g.met.I.IntoNEIter.NonEmptyIterator.not_empty in
    let some = some_item _ _ full c.args.iter made.0 made.1 in
    omega (arith, some, length-le-encodes made.0, ap length made.2)

pub returns : goal.returns
returns g c =
    let made = c.in_ok-inner.ensures in (
      made.0,
      made.1,
      (
        made.2,
        sym (chars_from_encodes made.0 _
            (IsUtf8-string_bytes c.in_ok-inner.inner) (sym made.2)),
      ),
    )
