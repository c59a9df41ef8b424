use Rattle.ne_vec.proofs.laws.chunks_make_the_whole.Goals as goal
use Rattle.ne_vec.proofs.Chunked.{chunk_there, chunk_is, chunks_joined, chunks_fit}

pub returns-clause-count : goal.returns-clause-count
returns-clause-count g c size xs j some = chunk_there size xs j some

pub returns-clause-each : goal.returns-clause-each
returns-clause-each g c size xs j there = chunk_is size xs j there

pub returns-clause-whole : goal.returns-clause-whole
returns-clause-whole g c size xs some = chunks_joined size xs some

pub returns-clause-sizes : goal.returns-clause-sizes
returns-clause-sizes g c size xs prefix last some e = chunks_fit size xs prefix last some e
