use Rattle.std.proofs.Common.{◌-◌, ◌<◌, length, map, slice_index_or, ℕ, List, Vec, Global, slice_set, refl, sym, ap, ◌∙◌, arith, rules}
use Rattle.std.proofs.lemmas.List.{length-set, get_or_append_left, set-append_left}
use Rattle.std.specs.Vec.{with_item}
use Rattle.ti_chunked.specs.Chunks.{joined}
use Rattle.ti_chunked.proofs.Pieces.{first_start, has_index, in_chunks, lent, lent_starts, offset, some_chunk, value}
use Rattle.ti_chunked.proofs.chunked.ChunkedIndexMutUsize.index_mut.Goals as goal

pub returns-then-index-len : goal.returns-then-index-len
returns-then-index-len g c =
    let rest = joined (map (λ (x : Vec g.row.T.Denot Global). x.items) c.self.inside.chunks.items) in
    let same = c.self.view_is in
    let h : c.args.index < length c.self.inside.front.items = omega (arith, c.if-index-len.true, c.len.ensures) in (
      (
        refl,
        λ w. (sym (set-append_left c.self.inside.front.items rest c.args.index w h) ∙ ap (λ (l : List g.row.T.Denot). slice_set l c.args.index w) same),
      ),
      record {
        writes_back = tt;
        value = c.index_mut.ensures.value ∙ sym (get_or_append_left c.self.inside.front.items rest c.index_mut.result.now c.args.index h) ∙ ap (λ (l : List g.row.T.Denot). slice_index_or l c.args.index c.index_mut.result.now) same;
      },
    )

pub chunk_of-chunk-requires-clause-some : goal.chunk_of-chunk-requires-clause-some
chunk_of-chunk-requires-clause-some g c =
    let same = c.self.view_is in
    some_chunk (λ (x : Vec g.row.T.Denot Global). x.items) c.self.inside.front.items c.self.inside.chunks.items c.self.inside.starts.items c.args.index c.self.invariant.0 (omega (arith, c.if-index-len.false, c.len.ensures)) (omega (arith, c.requires, ap (λ (l : List g.row.T.Denot). length l) same))

pub chunk_of-chunk-requires-clause-from : goal.chunk_of-chunk-requires-clause-from
chunk_of-chunk-requires-clause-from g c =
    first_start (λ (x : Vec g.row.T.Denot Global). x.items) c.self.inside.front.items c.self.inside.chunks.items c.self.inside.starts.items c.args.index c.self.invariant.0 (omega (arith, c.if-index-len.false, c.len.ensures))

pub index_mut-within-requires : goal.index_mut-within-requires
index_mut-within-requires g c =
    let h = in_chunks (λ (x : Vec g.row.T.Denot Global). x.items) c.self.inside.front.items c.self.inside.chunks.items c.self.inside.starts.items c.chunk_of-chunk.result c.args.index c.self.invariant.0 c.chunk_of-chunk.ensures.there in
    search rules

pub index_mut-requires-2 : goal.index_mut-requires-2
index_mut-requires-2 g c =
    let same = c.self.view_is in
    let has = has_index (λ (x : Vec g.row.T.Denot Global). x.items) c.self.inside.front.items c.self.inside.chunks.items c.self.inside.starts.items c.chunk_of-chunk.result c.args.index c.self.invariant.0 (omega (arith, c.requires, ap (λ (l : List g.row.T.Denot). length l) same)) c.chunk_of-chunk.ensures.there c.chunk_of-chunk.ensures.from c.chunk_of-chunk.ensures.below in
    let h = offset (λ (x : Vec g.row.T.Denot Global). x.items) c.self.inside.front.items c.self.inside.chunks.items c.self.inside.starts.items c.chunk_of-chunk.result c.args.index c.self.invariant.0 has c.chunk_of-chunk.ensures.there c.index_mut-within.result.now c.index_mut-within.ensures.value c.index.result.now c.index.ensures in
    search rules

pub invariant_of-self-lent-2 : goal.invariant_of-self-lent-2
invariant_of-self-lent-2 g c w =
    let f = λ (x : Vec g.row.T.Denot Global). x.items in
    let same = c.self.view_is in
    let v = c.index_mut-within.result.now in
    let i : ℕ = c.args.index - c.index.result.now in
    let new : Vec g.row.T.Denot Global = with_item v i w in
    let has = has_index f c.self.inside.front.items c.self.inside.chunks.items c.self.inside.starts.items c.chunk_of-chunk.result c.args.index c.self.invariant.0 (omega (arith, c.requires, ap (λ (l : List g.row.T.Denot). length l) same)) c.chunk_of-chunk.ensures.there c.chunk_of-chunk.ensures.from c.chunk_of-chunk.ensures.below in
    let all = lent f c.self.inside.front.items c.self.inside.chunks.items c.self.inside.starts.items c.chunk_of-chunk.result c.args.index c.self.invariant.0 has c.chunk_of-chunk.ensures.there v c.index_mut-within.ensures.value c.index.result.now c.index.ensures new w refl in (
      lent_starts f c.self.inside.front.items c.self.inside.chunks.items c.self.inside.starts.items c.chunk_of-chunk.result c.args.index c.self.invariant.0 has c.chunk_of-chunk.ensures.there v c.index_mut-within.ensures.value c.index.result.now c.index.ensures new (length-set v.items i w),
      c.self.invariant.1 ∙ sym (ap (λ (l : List g.row.T.Denot). length l) all ∙ length-set _ c.args.index w),
      c.self.invariant.2,
    )

pub returns : goal.returns
returns g c =
    let f = λ (x : Vec g.row.T.Denot Global). x.items in
    let same = c.self.view_is in
    let v = c.index_mut-within.result.now in
    let i : ℕ = c.args.index - c.index.result.now in
    let has = has_index f c.self.inside.front.items c.self.inside.chunks.items c.self.inside.starts.items c.chunk_of-chunk.result c.args.index c.self.invariant.0 (omega (arith, c.requires, ap (λ (l : List g.row.T.Denot). length l) same)) c.chunk_of-chunk.ensures.there c.chunk_of-chunk.ensures.from c.chunk_of-chunk.ensures.below in (
      (
        refl,
        λ w. (lent f c.self.inside.front.items c.self.inside.chunks.items c.self.inside.starts.items c.chunk_of-chunk.result c.args.index c.self.invariant.0 has c.chunk_of-chunk.ensures.there v c.index_mut-within.ensures.value c.index.result.now c.index.ensures (with_item v i w) w refl ∙ ap (λ (l : List g.row.T.Denot). slice_set l c.args.index w) same),
      ),
      record {
        writes_back = tt;
        value = c.index_mut-2.ensures.value ∙ sym (value f c.self.inside.front.items c.self.inside.chunks.items c.self.inside.starts.items c.chunk_of-chunk.result c.args.index c.self.invariant.0 has c.chunk_of-chunk.ensures.there v c.index_mut-within.ensures.value c.index.result.now c.index.ensures c.index_mut-2.result.now) ∙ ap (λ (l : List g.row.T.Denot). slice_index_or l c.args.index c.index_mut-2.result.now) same;
      },
    )
