use Rattle.ne_laws.proofs.maps.tree_maps_are_read_alike.Goals as goal
use Rattle.std.proofs.Common.{◌≡◌, refl}
use Rattle.std.specs.BTreeMap.{get}
use Rattle.std.specs.Map.{lookup}
use Rattle.ne_laws.proofs.ByEquality.{by_eq}

pub returns : goal.returns
returns g c = λ m q. by_eq g.K.PartialEq.eq g.K.Ord.cmp g.met.K.Ord.matches_eq
    (λ e. get g.K.Ord.cmp m q ≡ lookup (e q) m.entries) refl
