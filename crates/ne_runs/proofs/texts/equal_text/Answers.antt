use Rattle.ne_runs.proofs.texts.equal_text.Goals as goal
use Rattle.std.proofs.Common.{rules}
use Rattle.std.proofs.lemmas.Result.{IfOk-weaker}
use Rattle.std.specs.Prelude.{nat_eq}

pub returns : goal.returns
returns c = IfOk-weaker c.text_by_first.result _ _ (λ text says.
    says nat_eq (λ x y r answered. search rules)) c.text_by_first.ensures
