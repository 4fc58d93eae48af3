use Rattle.std.proofs.Common.{◌≡◌, suc, ◌+◌, ◌<◌, length, List, Vec, Global, refl, sym, ap, ◌∙◌, arith, rules}
use Rattle.ti_chunked.specs.Chunks.{joined, starts_from}
use Rattle.ti_chunked.proofs.Pieces.{join_same, join_starts, same_set}
use Rattle.ti_chunked.proofs.chunks.join.Goals as goal

pub returns-then-is_err-clause-starts : goal.returns-then-is_err-clause-starts
returns-then-is_err-clause-starts g c n is =
    is ∙ ap (λ (l : List (List g.row.T.Denot)). starts_from n l) (sym (same_set (λ (x : Vec g.row.T.Denot Global). x.items) c.args.chunks.now.items c.args.chunk c.index_mut.result.now c.reserve.new.self c.requires.there c.index_mut.ensures.value c.reserve.ensures.items))

pub returns-then-is_err-clause-same : goal.returns-then-is_err-clause-same
returns-then-is_err-clause-same g c =
    ap (λ (l : List (List g.row.T.Denot)). joined l) (same_set (λ (x : Vec g.row.T.Denot Global). x.items) c.args.chunks.now.items c.args.chunk c.index_mut.result.now c.reserve.new.self c.requires.there c.index_mut.ensures.value c.reserve.ensures.items)

pub returns-clause-starts : goal.returns-clause-starts
returns-clause-starts g c n is =
    let next : c.args.chunk + 1 ≡ suc c.args.chunk = omega arith in
    let h : c.args.chunk + 1 < length c.args.chunks.now.items = search rules in
    c.remove-start.ensures.items
    ∙ join_starts (λ (x : Vec g.row.T.Denot Global). x.items) c.args.chunks.now.items _ c.remove-next.new.self.items c.args.chunk _ c.index_mut.result.now c.reserve.new.self c.index_mut-2.result.now c.remove-next.result c.append.new.self next h c.index_mut.ensures.value c.reserve.ensures.items refl c.remove-next.ensures.items c.index_mut-2.ensures.value c.remove-next.ensures.value c.in-Ok.ensures.items c.args.starts.now.items n is

pub returns-clause-same : goal.returns-clause-same
returns-clause-same g c =
    let next : c.args.chunk + 1 ≡ suc c.args.chunk = omega arith in
    let h : c.args.chunk + 1 < length c.args.chunks.now.items = search rules in
    join_same (λ (x : Vec g.row.T.Denot Global). x.items) c.args.chunks.now.items _ c.remove-next.new.self.items c.args.chunk _ c.index_mut.result.now c.reserve.new.self c.index_mut-2.result.now c.remove-next.result c.append.new.self next h c.index_mut.ensures.value c.reserve.ensures.items refl c.remove-next.ensures.items c.index_mut-2.ensures.value c.remove-next.ensures.value c.in-Ok.ensures.items
