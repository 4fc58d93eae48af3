use Rattle.std.proofs.Common.{◌≡◌, ◌≤◌, ◌++◌, length, map, Vec, Global}
use Rattle.std.specs.Prelude.{vec_capacity}
use Rattle.std.specs.Vec.Iter.{into_iter_items}
use Rattle.ti_chunked.specs.Chunks.{joined}
use Rattle.ti_chunked.proofs.chunked.Chunked.into_vec.Given as goal

-- what was gathered, with the chunks that are left, is all, and there is room for it
abbrev pub invariant-loop-chunk : goal.invariant-loop-chunk
invariant-loop-chunk g l =
    (l.front.items ++ joined (map (λ (x : Vec g.row.T.Denot Global). x.items) (into_iter_items l.chunk-iterator)) ≡ l.fn.self)
    × (length l.fn.self ≤ vec_capacity l.front)
