-- The chunks of a list: parts of n items each, the last of which may be shorter.
use Rattle.std.specs.Prelude.{◌≡◌, ℕ, ◌*◌, ◌<◌, List, map, length, take, drop}
use Rattle.std.specs.Iterator.{YieldsFirst}
use Rattle.std.specs.List.{range_with_len}
use Rattle.std.specs.Slice.Iter.{chunk_count, chunks_rest, chunks_size}
use Rattle.std.specs.declared.slice.Chunks.{Chunks}
use Rattle.ne_vec.specs.Lists.{Listed}

-- Chunk j: the items from place j * n up to place (j + 1) * n, or to the end.
abbrev pub chunk : {X : Type 0} → ℕ → List X → ℕ → List X
chunk n xs j = take n (drop (j * n) xs)

-- All chunks of xs, if n is not 0: chunk j for each j such that xs has an item at place j * n.
abbrev pub chunks : {X : Type 0} → ℕ → List X → List (List X)
chunks n xs = map (chunk n xs) (range_with_len 0 (chunk_count (length xs) n))

-- The chunks that std's iterator `it` has left.
abbrev pub chunks_left : {X : Type 0} → Chunks X → List (List X)
chunks_left it = chunks (chunks_size it) (chunks_rest it)

-- The source c of chunks yields the chunks `parts`.
abbrev pub ChunksGive : {X : Type 0} → List (List X) → List (List X) → Type 0
ChunksGive c parts =
    Listed (λ c it. (0 < length c) × (it ≡ c)) (YieldsFirst (λ left. left)) (λ x. x) c parts
