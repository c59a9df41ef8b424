-- What a run reads, returns and writes. The reader has `left` left before the run and `left'` after
-- it, and the writer has taken `taken` and `taken'`. `None` says nothing about the bytes.
use Rattle.std.specs.Prelude.{◌≡◌, ℕ, ◌+◌, ◌⊎◌, List, [], ◌++◌, length, Option, None, Some, Result}
use Rattle.std.specs.Prelude.{MatchResult}
use Rattle.std.specs.Io.KnownBytes.{Appends, Consumes, IsAtEnd}
use Rattle.ne_runs.specs.Lines.{numbers_of}
use Rattle.ne_runs.specs.Modes.{AreRows, IsText}
use Rattle.ne_runs.specs.Faults.{fault_of}
use Rattle.ne_runs.specs.declared.mode.Mode.{Mode}
use Rattle.ne_runs.specs.declared.whole_run.TheConstants.{LIMIT}
use Rattle.ne_runs.specs.declared.fault.Fault.{Fault}
use Rattle.ne_runs.specs.declared.fault.Fault.TheVariants.{Write}

-- The writer took a prefix of the text and nothing more. The rest of the text is `rest`.
pub record TakesPart (text rest : List ℕ) (taken taken' : Option (List ℕ)) : Type 0 where
  pub part : List ℕ
  pub joined : text ≡ part ++ rest
  pub written : Appends taken taken' part

-- The writer took the mode's text for the input's numbers, all but `rest`, and nothing more.
pub record WritesBut (rest : List ℕ) (mode : Mode) (input : List ℕ)
    (taken taken' : Option (List ℕ)) : Type 0 where
  pub text : List ℕ
  pub is_text : IsText (AreRows mode (numbers_of input)) text
  pub takes : TakesPart text rest taken taken'

-- The run wrote the whole text for the input, or returns the input's fault, or failed to write.
abbrev pub EndsWith : Mode → List ℕ → Option (List ℕ) → Option (List ℕ) → Result (Unit {0}) Fault
    → Type 0
EndsWith mode input taken taken' result =
    MatchResult result
    (λ _. (fault_of input ≡ None) × WritesBut [] mode input taken taken')
    (λ fault. (fault_of input ≡ Some fault)
    ⊎ ((fault_of input ≡ None) × (fault ≡ Write)
    × ((rest : List ℕ) × WritesBut rest mode input taken taken')))

-- A run in which no read and no allocation fails: it reads the input, and ends as `EndsWith` says.
pub record Completes (mode : Mode) (left left' taken taken' : Option (List ℕ))
    (result : Result (Unit {0}) Fault) : Type 0 where
  pub input : List ℕ
  pub read : Consumes left left' input
  pub whole : (IsAtEnd left') ⊎ (length input ≡ LIMIT + 1)
  pub ends : EndsWith mode input taken taken' result
