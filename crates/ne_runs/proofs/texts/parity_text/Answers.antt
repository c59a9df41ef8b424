use Rattle.ne_runs.proofs.texts.parity_text.Goals as goal
use Rattle.std.proofs.Common.{rules}
use Rattle.std.proofs.lemmas.Result.{IfOk-weaker}
use Rattle.std.specs.Bool.{beq}
use Rattle.ne_runs.specs.Modes.{is_even}

pub returns : goal.returns
returns c = IfOk-weaker c.text_by_first.result _ _ (λ text says.
    says (λ m n. beq (is_even m) (is_even n)) (λ x y r answered. search rules))
    c.text_by_first.ensures
