use Rattle.ne_iter.proofs.laws.closures.always_callable_is_callable_in_scan.Goals as goal
use Rattle.ne_iter.proofs.Scan.{CallableInScan-always}

pub returns : goal.returns
returns g c it f init always =
    CallableInScan-always g.I.Iterator.next_gives g.F.FnMut it f init always
