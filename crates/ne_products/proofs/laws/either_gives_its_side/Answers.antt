use Rattle.ne_products.proofs.laws.either_gives_its_side.Goals as goal
use Rattle.ne_products.proofs.SideRuns.{side_lists, side_reads}

pub returns-clause-reads : goal.returns-clause-reads
returns-clause-reads g c = side_reads _ _ _ _ _

pub returns-clause-lists : goal.returns-clause-lists
returns-clause-lists g c = side_lists _ _ _ _ _
