use Rattle.std.proofs.Common.{◌≡◌, ◌++◌, ◌∷◌, [], suc, ◌-◌, ◌<◌, length, List, Vec, Global, sym, ap, ◌∙◌, arith, rules}
use Rattle.ti_chunked.specs.Chunks.{joined}
use Rattle.ti_chunked.proofs.Pieces.{last_pushed, last_starts, same_set}
use Rattle.ti_chunked.proofs.chunks.push_behind.Goals as goal

pub returns-in-Ok-clause-starts : goal.returns-in-Ok-clause-starts
returns-in-Ok-clause-starts g c n is all =
    let h : 0 < length c.open_last.new.chunks.items = search rules in
    let count : c.len-last.result ≡ length c.open_last.new.chunks.items = search rules in
    let last : suc (c.len-last.result - 1) ≡ length c.open_last.new.chunks.items = omega (arith, h, count) in
    c.open_last.ensures.starts n is all ∙ sym (last_starts (λ (x : Vec g.row.T.Denot Global). x.items) c.open_last.new.chunks.items (c.len-last.result - 1) n c.push.new.self last)

pub returns-in-Ok-clause-pushed : goal.returns-in-Ok-clause-pushed
returns-in-Ok-clause-pushed g c =
    let h : 0 < length c.open_last.new.chunks.items = search rules in
    let count : c.len-last.result ≡ length c.open_last.new.chunks.items = search rules in
    let last : suc (c.len-last.result - 1) ≡ length c.open_last.new.chunks.items = omega (arith, h, count) in
    let more = c.in-Ok.ensures.items in
    last_pushed (λ (x : Vec g.row.T.Denot Global). x.items) c.open_last.new.chunks.items (c.len-last.result - 1) c.index_mut.result.now c.push.new.self c.args.value last c.index_mut.ensures.value more
    ∙ ap (λ (l : List g.row.T.Denot). l ++ c.args.value ∷ []) c.open_last.ensures.same

pub returns-in-Err-clause-starts : goal.returns-in-Err-clause-starts
returns-in-Err-clause-starts g c n is all =
    let h : 0 < length c.open_last.new.chunks.items = search rules in
    let count : c.len-last.result ≡ length c.open_last.new.chunks.items = search rules in
    let last : suc (c.len-last.result - 1) ≡ length c.open_last.new.chunks.items = omega (arith, h, count) in
    c.open_last.ensures.starts n is all ∙ sym (last_starts (λ (x : Vec g.row.T.Denot Global). x.items) c.open_last.new.chunks.items (c.len-last.result - 1) n c.push.new.self last)

pub returns-in-Err-clause-same : goal.returns-in-Err-clause-same
returns-in-Err-clause-same g c =
    let h : 0 < length c.open_last.new.chunks.items = search rules in
    let count : c.len-last.result ≡ length c.open_last.new.chunks.items = search rules in
    let last : c.len-last.result - 1 < length c.open_last.new.chunks.items = omega (arith, h, count) in
    let same = c.in-Err.ensures.items in
    ap (λ (l : List (List g.row.T.Denot)). joined l) (same_set (λ (x : Vec g.row.T.Denot Global). x.items) c.open_last.new.chunks.items (c.len-last.result - 1) c.index_mut.result.now c.push.new.self last c.index_mut.ensures.value same)
    ∙ c.open_last.ensures.same
