use Rattle.std.proofs.Common.{length, slice_index_or, List, Vec, Global, sym, ap, ◌∙◌, arith, rules}
use Rattle.ti_chunked.proofs.Pieces.{first_start, has_index, in_chunks, offset, some_chunk, value}
use Rattle.ti_chunked.proofs.chunked.ChunkedIndexUsize.index.Goals as goal

pub chunk_of-chunk-requires-clause-some : goal.chunk_of-chunk-requires-clause-some
chunk_of-chunk-requires-clause-some g c =
    let same = c.self.view_is in
    some_chunk (λ (x : Vec g.row.T.Denot Global). x.items) c.self.inside.front.items c.self.inside.chunks.items c.self.inside.starts.items c.args.index c.self.invariant.0 (omega (arith, c.if-index-len.false, c.len.ensures)) (omega (arith, c.requires, ap (λ (l : List g.row.T.Denot). length l) same))

pub chunk_of-chunk-requires-clause-from : goal.chunk_of-chunk-requires-clause-from
chunk_of-chunk-requires-clause-from g c =
    first_start (λ (x : Vec g.row.T.Denot Global). x.items) c.self.inside.front.items c.self.inside.chunks.items c.self.inside.starts.items c.args.index c.self.invariant.0 (omega (arith, c.if-index-len.false, c.len.ensures))

pub index-within-requires : goal.index-within-requires
index-within-requires g c =
    let h = in_chunks (λ (x : Vec g.row.T.Denot Global). x.items) c.self.inside.front.items c.self.inside.chunks.items c.self.inside.starts.items c.chunk_of-chunk.result c.args.index c.self.invariant.0 c.chunk_of-chunk.ensures.there in
    search rules

pub index-requires-3 : goal.index-requires-3
index-requires-3 g c =
    let f = λ (x : Vec g.row.T.Denot Global). x.items in
    let same = c.self.view_is in
    let has = has_index f c.self.inside.front.items c.self.inside.chunks.items c.self.inside.starts.items c.chunk_of-chunk.result c.args.index c.self.invariant.0 (omega (arith, c.requires, ap (λ (l : List g.row.T.Denot). length l) same)) c.chunk_of-chunk.ensures.there c.chunk_of-chunk.ensures.from c.chunk_of-chunk.ensures.below in
    let h = offset f c.self.inside.front.items c.self.inside.chunks.items c.self.inside.starts.items c.chunk_of-chunk.result c.args.index c.self.invariant.0 has c.chunk_of-chunk.ensures.there c.index-within.result.now c.index-within.ensures c.index-2.result.now c.index-2.ensures in
    search rules

pub returns : goal.returns
returns g c =
    let f = λ (x : Vec g.row.T.Denot Global). x.items in
    let same = c.self.view_is in
    let has = has_index f c.self.inside.front.items c.self.inside.chunks.items c.self.inside.starts.items c.chunk_of-chunk.result c.args.index c.self.invariant.0 (omega (arith, c.requires, ap (λ (l : List g.row.T.Denot). length l) same)) c.chunk_of-chunk.ensures.there c.chunk_of-chunk.ensures.from c.chunk_of-chunk.ensures.below in
    c.index-3.ensures
    ∙ sym (value f c.self.inside.front.items c.self.inside.chunks.items c.self.inside.starts.items c.chunk_of-chunk.result c.args.index c.self.invariant.0 has c.chunk_of-chunk.ensures.there c.index-within.result.now c.index-within.ensures c.index-2.result.now c.index-2.ensures c.index-3.result.now)
    ∙ ap (λ (l : List g.row.T.Denot). slice_index_or l c.args.index c.index-3.result.now) same
