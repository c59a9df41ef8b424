use Rattle.ne_vec.proofs.laws.one_item_more.Goals as goal
use Rattle.ne_vec.specs.DivisionLaws.{division_goes_on, division_breaks}

pub returns-clause-goes_on : goal.returns-clause-goes_on
returns-clause-goes_on g c goes_on xs x rs last h on = division_goes_on goes_on xs x rs last h on

pub returns-clause-breaks : goal.returns-clause-breaks
returns-clause-breaks g c goes_on xs x rs last h off = division_breaks goes_on xs x rs last h off
