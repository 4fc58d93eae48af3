use Rattle.std.proofs.Common.{◌≡◌, ◌++◌, ◌<◌, ◌+◌, suc, ℕ, length, map, slice_index_or, List, Vec, Global, sym, ap, subst, ◌∙◌, arith, rules}
use Rattle.std.specs.List.{remove}
use Rattle.std.proofs.lemmas.List.{length-map, length-set}
use Rattle.std.proofs.lemmas.List.Edits.{length-remove, remove-append_left}
use Rattle.ti_chunked.specs.Chunks.{ArePositive, HasIndex, joined, lowered, starts_from}
use Rattle.ti_chunked.proofs.Pieces.{first_start, front_positive, front_starts, has_index, in_chunks, offset, removed, removed_positive, removed_starts, some_chunk, value}
use Rattle.ti_chunked.proofs.Cutting.{length-starts_from}
use Rattle.ti_chunked.proofs.Lowering.{length-lowered}
use Rattle.ti_chunked.proofs.chunked.Chunked.remove.Given.{Over}
use Rattle.ti_chunked.proofs.chunked.Chunked.remove.Goals.{After-chunk_of-chunk, After-tidy}
use Rattle.ti_chunked.proofs.chunked.Chunked.remove.Goals as goal

pub lower-requires : goal.lower-requires
lower-requires g c =
    let h : c.args.index < length c.self.inside.front.items = omega (arith, c.if-index-len.true, c.len.ensures) in
    front_positive (λ (x : Vec g.row.T.Denot Global). x.items) c.self.inside.front.items c.self.inside.chunks.items c.self.inside.starts.items c.args.index c.self.invariant.0 h

pub invariant_of-self : goal.invariant_of-self
invariant_of-self g c =
    let f = λ (x : Vec g.row.T.Denot Global). x.items in
    let all = c.self.inside.front.items ++ joined (map f c.self.inside.chunks.items) in
    let h : c.args.index < length c.self.inside.front.items = omega (arith, c.if-index-len.true, c.len.ensures) in
    let there : c.args.index < length all = omega (arith, c.requires, ap (λ (l : List g.row.T.Denot). length l) c.self.view_is) in
    let left : c.remove.new.self.items ++ joined (map f c.self.inside.chunks.items) ≡ remove all c.args.index = ap (λ (l : List g.row.T.Denot). l ++ joined (map f c.self.inside.chunks.items)) c.remove.ensures.items ∙ sym (remove-append_left c.self.inside.front.items (joined (map f c.self.inside.chunks.items)) c.args.index h) in
    let count : length (c.remove.new.self.items ++ joined (map f c.self.inside.chunks.items)) + 1 ≡ length all = ap (λ (l : List g.row.T.Denot). length l + 1) left ∙ length-remove all c.args.index there in (
      c.lower.ensures
          ∙ front_starts f c.self.inside.front.items c.self.inside.chunks.items c.self.inside.starts.items c.args.index c.self.invariant.0 h
          ∙ ap (λ (l : List g.row.T.Denot). starts_from (length l) (map f c.self.inside.chunks.items)) (sym c.remove.ensures.items),
      omega (arith, c.self.invariant.1, count),
      omega (arith, c.self.invariant.2, c.remove.ensures.capacity),
    )

pub chunk_of-chunk-requires-clause-some : goal.chunk_of-chunk-requires-clause-some
chunk_of-chunk-requires-clause-some g c =
    let same = c.self.view_is in
    some_chunk (λ (x : Vec g.row.T.Denot Global). x.items) c.self.inside.front.items c.self.inside.chunks.items c.self.inside.starts.items c.args.index c.self.invariant.0 (omega (arith, c.if-index-len.false, c.len.ensures)) (omega (arith, c.requires, ap (λ (l : List g.row.T.Denot). length l) same))

pub chunk_of-chunk-requires-clause-from : goal.chunk_of-chunk-requires-clause-from
chunk_of-chunk-requires-clause-from g c =
    first_start (λ (x : Vec g.row.T.Denot Global). x.items) c.self.inside.front.items c.self.inside.chunks.items c.self.inside.starts.items c.args.index c.self.invariant.0 (omega (arith, c.if-index-len.false, c.len.ensures))

pub index_mut-requires : goal.index_mut-requires
index_mut-requires g c =
    let h = in_chunks (λ (x : Vec g.row.T.Denot Global). x.items) c.self.inside.front.items c.self.inside.chunks.items c.self.inside.starts.items c.chunk_of-chunk.result c.args.index c.self.invariant.0 c.chunk_of-chunk.ensures.there in
    search rules

-- the chunk that was found has the index
has : (g : Over) (c : After-chunk_of-chunk g) → HasIndex (length c.self.inside.front.items) (map (λ (x : Vec g.row.T.Denot Global). x.items) c.self.inside.chunks.items) c.chunk_of-chunk.result c.args.index
has g c =
    let same = c.self.view_is in
    has_index (λ (x : Vec g.row.T.Denot Global). x.items) c.self.inside.front.items c.self.inside.chunks.items c.self.inside.starts.items c.chunk_of-chunk.result c.args.index c.self.invariant.0 (omega (arith, c.requires, ap (λ (l : List g.row.T.Denot). length l) same)) c.chunk_of-chunk.ensures.there c.chunk_of-chunk.ensures.from c.chunk_of-chunk.ensures.below

pub remove-value-requires : goal.remove-value-requires
remove-value-requires g c =
    let f = λ (x : Vec g.row.T.Denot Global). x.items in
    let at = has g (goal.at.remove-value-requires g c).After-chunk_of-chunk in
    let h = offset f c.self.inside.front.items c.self.inside.chunks.items c.self.inside.starts.items c.chunk_of-chunk.result c.args.index c.self.invariant.0 at c.chunk_of-chunk.ensures.there c.index_mut.result.now c.index_mut.ensures.value c.index.result.now c.index.ensures in
    search rules

pub lower-requires-2 : goal.lower-requires-2
lower-requires-2 g c =
    let f = λ (x : Vec g.row.T.Denot Global). x.items in
    let at = has g (goal.at.lower-requires-2 g c).After-chunk_of-chunk in
    let next : suc c.chunk_of-chunk.result ≡ c.chunk_of-chunk.result + 1 = omega arith in
    subst (λ (k : ℕ). ArePositive k c.self.inside.starts.items) next (removed_positive f c.self.inside.front.items c.self.inside.chunks.items c.self.inside.starts.items c.chunk_of-chunk.result c.args.index c.self.invariant.0 at c.chunk_of-chunk.ensures.there)

pub tidy-requires-clause-there : goal.tidy-requires-clause-there
tidy-requires-clause-there g c =
    let h = in_chunks (λ (x : Vec g.row.T.Denot Global). x.items) c.self.inside.front.items c.self.inside.chunks.items c.self.inside.starts.items c.chunk_of-chunk.result c.args.index c.self.invariant.0 c.chunk_of-chunk.ensures.there in
    omega (arith, h, length-set c.self.inside.chunks.items c.chunk_of-chunk.result c.remove-value.new.self)

pub tidy-requires-clause-count : goal.tidy-requires-clause-count
tidy-requires-clause-count g c =
    let f = λ (x : Vec g.row.T.Denot Global). x.items in
    ap (λ (l : List ℕ). length l) (c.lower-2.ensures)
    ∙ length-lowered (c.chunk_of-chunk.result + 1) c.self.inside.starts.items
    ∙ ap (λ (l : List ℕ). length l) c.self.invariant.0
    ∙ length-starts_from (length c.self.inside.front.items) (map f c.self.inside.chunks.items)
    ∙ length-map c.self.inside.chunks.items f
    ∙ sym (length-set c.self.inside.chunks.items c.chunk_of-chunk.result c.remove-value.new.self)

-- what is left, with the chunk as it is then
left : (g : Over) (c : After-tidy g) → HasIndex (length c.self.inside.front.items) (map (λ (x : Vec g.row.T.Denot Global). x.items) c.self.inside.chunks.items) c.chunk_of-chunk.result c.args.index
    → c.self.inside.front.items ++ joined (map (λ (x : Vec g.row.T.Denot Global). x.items) c.tidy.new.chunks.items) ≡ remove (c.self.inside.front.items ++ joined (map (λ (x : Vec g.row.T.Denot Global). x.items) c.self.inside.chunks.items)) c.args.index
left g c at =
    let f = λ (x : Vec g.row.T.Denot Global). x.items in
    ap (λ (l : List g.row.T.Denot). c.self.inside.front.items ++ l) c.tidy.ensures.same
    ∙ removed f c.self.inside.front.items c.self.inside.chunks.items c.self.inside.starts.items c.chunk_of-chunk.result c.args.index c.self.invariant.0 at c.chunk_of-chunk.ensures.there c.index_mut.result.now c.index_mut.ensures.value c.index.result.now c.index.ensures c.remove-value.new.self c.remove-value.ensures.items

pub invariant_of-self-2 : goal.invariant_of-self-2
invariant_of-self-2 g c =
    let f = λ (x : Vec g.row.T.Denot Global). x.items in
    let at = has g (goal.at.invariant_of-self-2 g c).After-chunk_of-chunk in
    let all = c.self.inside.front.items ++ joined (map f c.self.inside.chunks.items) in
    let there : c.args.index < length all = omega (arith, c.requires, ap (λ (l : List g.row.T.Denot). length l) c.self.view_is) in
    let next : c.chunk_of-chunk.result + 1 ≡ suc c.chunk_of-chunk.result = omega arith in
    let starts = removed_starts f c.self.inside.front.items c.self.inside.chunks.items c.self.inside.starts.items c.chunk_of-chunk.result c.args.index c.self.invariant.0 at c.chunk_of-chunk.ensures.there c.index_mut.result.now c.index_mut.ensures.value c.index.result.now c.index.ensures c.remove-value.new.self c.remove-value.ensures.items in
    let count = ap (λ (l : List g.row.T.Denot). length l + 1) (left g (goal.at.invariant_of-self-2 g c).After-tidy at) ∙ length-remove all c.args.index there in (
      c.tidy.ensures.starts (length c.self.inside.front.items) (c.lower-2.ensures ∙ ap (λ (k : ℕ). lowered k c.self.inside.starts.items) next ∙ sym starts),
      omega (arith, c.self.invariant.1, count),
      omega (arith, c.self.invariant.2),
    )

pub returns-clause-value : goal.returns-clause-value
returns-clause-value g c =
    let f = λ (x : Vec g.row.T.Denot Global). x.items in
    let at = has g (goal.at.returns-clause-value g c).After-chunk_of-chunk in
    c.remove-value.ensures.value
    ∙ sym (value f c.self.inside.front.items c.self.inside.chunks.items c.self.inside.starts.items c.chunk_of-chunk.result c.args.index c.self.invariant.0 at c.chunk_of-chunk.ensures.there c.index_mut.result.now c.index_mut.ensures.value c.index.result.now c.index.ensures c.remove-value.result)
    ∙ ap (λ (l : List g.row.T.Denot). slice_index_or l c.args.index c.remove-value.result) c.self.view_is

pub returns-clause-items : goal.returns-clause-items
returns-clause-items g c =
    left g (goal.at.returns-clause-items g c).After-tidy (has g (goal.at.returns-clause-items g c).After-chunk_of-chunk)
    ∙ ap (λ (l : List g.row.T.Denot). remove l c.args.index) c.self.view_is
