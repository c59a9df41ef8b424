use Rattle.ne_products.proofs.laws.products_have_their_places.Goals as goal
use Rattle.ne_products.proofs.Places.{pair_count, pair_place}

pub returns-clause-places : goal.returns-clause-places
returns-clause-places g c xs ys = pair_place ys xs

pub returns-clause-count : goal.returns-clause-count
returns-clause-count g c xs ys = pair_count ys xs
