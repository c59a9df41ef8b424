use Rattle.ne_vec.proofs.slice.ChunksIterIterator.size_hint.Goals as goal
use Rattle.ne_vec.proofs.Chunked.{chunks_counted}

pub returns-clause-lower : goal.returns-clause-lower
returns-clause-lower g c = rw (← c.self.view_is, chunks_counted _ _) c.size_hint.ensures.lower

pub returns-clause-upper : goal.returns-clause-upper
returns-clause-upper g c = rw (← c.self.view_is, chunks_counted _ _) c.size_hint.ensures.upper
