use Rattle.ne_runs.proofs.texts.stats_text.Goals as goal
use Rattle.std.proofs.Common.{◌∷◌, [], rules}

pub returns : goal.returns
returns c = record {
  rows = (c.from-least.result ∷ c.from-greatest.result ∷ c.sum.result ∷ []) ∷ [];
  holds = (
    c.least.result,
    c.greatest.result,
    c.least.ensures,
    c.greatest.ensures,
    (let least = c.from-least.ensures in let greatest = c.from-greatest.ensures in
        let total = c.sum.ensures in cc),
  );
  written = search rules;
}
