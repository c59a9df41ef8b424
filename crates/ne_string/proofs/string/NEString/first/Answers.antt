-- The characters begin with the first one.
use Rattle.std.proofs.Common.{ap, sym, slice_get, slice_index}
use Rattle.ne_string.proofs.string.NEString.first.Goals as goal

pub returns-clause-first : goal.returns-clause-first
returns-clause-first c = ap (λ l. slice_get l 0) c.split_first.ensures.characters

pub returns-clause-code : goal.returns-clause-code
returns-clause-code c = sym (ap (λ l. slice_index l 0) c.split_first.ensures.characters)
