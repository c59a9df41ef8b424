-- What several writes took together.
use Rattle.std.proofs.Common.{ℕ, ◌-◌, ◌≤◌, List, ◌++◌, length, take, drop, Option, sym, ap, ◌∙◌}
use Rattle.std.proofs.Common.{append_assoc, arith, take-append-drop}
use Rattle.std.specs.Io.KnownBytes.{Appends}
use Rattle.std.proofs.KnownBytes.{Appends-trans}
use Rattle.std.proofs.lemmas.List.{take_all, length-drop}
use Rattle.ne_runs.specs.ProgramRuns.{TakesPart}

-- A write took some more bytes of the rest.
pub takes_more : (text rest : List ℕ) (count : ℕ) (taken now next : Option (List ℕ))
    → TakesPart text rest taken now → Appends now next (take count rest)
    → TakesPart text (take (length rest - count) (drop count rest)) taken next
takes_more text rest count taken now next before more =
    let short : length (drop count rest) ≤ length rest - count = omega
    (arith, length-drop count rest) in
    record {
      part = before.part ++ take count rest;
      joined = rw (take_all (length rest - count) (drop count rest) short)
          (before.joined ∙ ap (λ l. before.part ++ l) (sym (take-append-drop count rest))
          ∙ sym (append_assoc before.part (take count rest) (drop count rest)));
      written = Appends-trans taken now next before.part (take count rest) before.written more;
    }
