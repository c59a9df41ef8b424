use Rattle.std.proofs.Common.{ap, ◌∙◌, ◌∷◌}
use Rattle.std.proofs.lemmas.Str.{chars-nil}
use Rattle.ne_string.proofs.string.traits.NEStringSingleton.singleton.Goals as goal

pub returns : goal.returns
returns c = (
  c.in_ok-made.ensures.bytes,
  c.in_ok-made.ensures.characters ∙ ap (λ l. c.args.item ∷ l) chars-nil,
)
