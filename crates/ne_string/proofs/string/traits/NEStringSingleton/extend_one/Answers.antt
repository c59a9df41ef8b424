use Rattle.std.proofs.Common.{ap, ◌++◌, ◌∙◌, ◌∷◌, []}
use Rattle.ne_string.proofs.Characters.{pushed}
use Rattle.ne_string.proofs.string.traits.NEStringSingleton.extend_one.Goals as goal

pub returns-clause-added : goal.returns-clause-added
returns-clause-added c = λ cs made. (
  pushed cs _ _ c.args.item c.in_ok-push.ensures.added made.0,
  c.in_ok-push.ensures.characters ∙ ap (λ l. l ++ c.args.item ∷ []) made.1,
)
