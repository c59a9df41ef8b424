use Rattle.ne_runs.proofs.texts.near_text.Goals as goal
use Rattle.std.proofs.Common.{rules}
use Rattle.std.proofs.lemmas.Result.{IfOk-weaker}
use Rattle.ne_runs.specs.Modes.{is_near}

pub returns : goal.returns
returns c = IfOk-weaker c.text_by_first.result _ _ (λ text says.
    says is_near (λ x y r answered. search rules)) c.text_by_first.ensures
