use Rattle.user_programs.proofs.validation.number.Goals as goal
use Rattle.std.proofs.Common.{◌∙◌}
use Rattle.std.specs.Str.Parse.{digits_value, without_leading_plus}
use Rattle.user_programs.proofs.Numerals.{value_by_test, passes_numeral, numeral_passes}

pub returns : goal.returns
returns c =
    let ds = without_leading_plus c.args.text.now in
    c.ok.ensures.value ∙ value_by_test _ (passes_numeral ds) (numeral_passes ds) c.parse.result
    (digits_value 10 ds) c.parse.ensures.value.0
