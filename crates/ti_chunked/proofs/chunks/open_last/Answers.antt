use Rattle.std.proofs.Common.{◌++◌, ◌∷◌, [], map, ℕ, List, Vec, Global, sym, ap, ◌∙◌}
use Rattle.ti_chunked.specs.Chunks.{joined, starts_from}
use Rattle.ti_chunked.proofs.Pieces.{new_joined, new_starts}
use Rattle.ti_chunked.proofs.chunks.open_last.Goals as goal

pub returns-clause-starts : goal.returns-clause-starts
returns-clause-starts g c n is all =
    let f = λ (x : Vec g.row.T.Denot Global). x.items in
    let cs = c.push_reserved.ensures.items ∙ ap (λ (l : List (Vec g.row.T.Denot Global)). l ++ c.new.result ∷ []) c.reserve.ensures.items in
    c.push_reserved-2.ensures.items
    ∙ ap (λ (l : List ℕ). l ++ c.args.len ∷ []) (c.reserve-2.ensures.items ∙ is)
    ∙ new_starts f c.args.chunks.now.items c.new.result n c.args.len c.new.ensures.items all
    ∙ ap (λ (l : List (Vec g.row.T.Denot Global)). starts_from n (map f l)) (sym cs)

pub returns-clause-same : goal.returns-clause-same
returns-clause-same g c =
    let f = λ (x : Vec g.row.T.Denot Global). x.items in
    let cs = c.push_reserved.ensures.items ∙ ap (λ (l : List (Vec g.row.T.Denot Global)). l ++ c.new.result ∷ []) c.reserve.ensures.items in
    ap (λ (l : List (Vec g.row.T.Denot Global)). joined (map f l)) cs ∙ new_joined f c.args.chunks.now.items c.new.result c.new.ensures.items
