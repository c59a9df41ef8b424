use Rattle.user_references.proofs.parts.chunk_vectors.Given as goal
use Rattle.std.specs.Prelude.{◌≡◌, take}

abbrev pub invariant-loop-part : goal.invariant-loop-part
invariant-loop-part l = l.vectors.items ≡ take l.part-index l.all
