use Rattle.std.proofs.Common.{◌≡◌, ◌<◌, ◌≤◌, ℕ, suc, ◌+◌, ◌-◌, ◌++◌, List, Vec, Global, length, map, slice_get, Some, refl, ap, ◌∙◌, arith, rules}
use Rattle.std.proofs.lemmas.List.{length-map}
use Rattle.std.proofs.lemmas.Option.{slice_get_read}
use Rattle.ti_chunked.specs.Chunks.{joined}
use Rattle.ti_chunked.proofs.Cutting.{length-starts_from}
use Rattle.ti_chunked.proofs.Keys.{first_from, other_below, other_from, other_within, some_way}
use Rattle.ti_chunked.proofs.chunked.Chunked.partition_point.Given.{Over}
use Rattle.ti_chunked.proofs.chunked.Chunked.partition_point.Goals.{After-place_in-2}
use Rattle.ti_chunked.proofs.chunked.Chunked.partition_point.Goals as goal

pub returns-then-count-eq0-clause-from : goal.returns-then-count-eq0-clause-from
returns-then-count-eq0-clause-from g c x e =
    let f = λ (v : Vec g.row.T.Denot Global). v.items in
    let cs = c.self.inside.chunks.items in
    let none = ap (slice_get cs) c.if-count-eq0.true in
    first_from f g.K.KeyOf.key c.args.key c.self.inside.front.items cs c.place_in.result c.place_in.ensures.within c.place_in.ensures.from (λ v at. c.is_empty_at.ensures c.if-is_empty_at.false v (none ∙ at)) (λ v y at there. c.chunks_below-count.ensures.from v y (none ∙ at) there) x (ap (λ (l : List g.row.T.Denot). slice_get l c.place_in.result) c.self.view_is ∙ e)

pub index-requires : goal.index-requires
index-requires g c =
    let f = λ (v : Vec g.row.T.Denot Global). v.items in
    let counts = ap (λ (l : List ℕ). length l) c.self.invariant.0 ∙ length-starts_from (length c.self.inside.front.items) (map f c.self.inside.chunks.items) ∙ length-map c.self.inside.chunks.items f in
    omega (arith, counts, c.chunks_below-count.ensures.within, c.if-count-eq0.false)

-- the chunk in which it searched
found : (g : Over) (c : After-place_in-2 g) → slice_get c.self.inside.chunks.items (c.chunks_below-count.result - 1) ≡ Some c.index-2.result.now
found g c = slice_get_read c.self.inside.chunks.items _ (c.chunks_below-count.result - 1) c.index-2.result.now refl (omega (arith, c.chunks_below-count.ensures.within, c.if-count-eq0.false)) c.index-2.ensures

there : (g : Over) (c : After-place_in-2 g) → c.chunks_below-count.result - 1 < length c.self.inside.starts.items
there g c =
    let f = λ (v : Vec g.row.T.Denot Global). v.items in
    let counts = ap (λ (l : List ℕ). length l) c.self.invariant.0 ∙ length-starts_from (length c.self.inside.front.items) (map f c.self.inside.chunks.items) ∙ length-map c.self.inside.chunks.items f in
    omega (arith, counts, c.chunks_below-count.ensures.within, c.if-count-eq0.false)

within : (g : Over) (c : After-place_in-2 g) → c.index.result.now + c.place_in-2.result ≤ length (c.self.inside.front.items ++ joined (map (λ (v : Vec g.row.T.Denot Global). v.items) c.self.inside.chunks.items))
within g c = other_within (λ (v : Vec g.row.T.Denot Global). v.items) g.K.KeyOf.key c.args.key c.self.inside.front.items c.self.inside.chunks.items c.self.inside.starts.items (c.chunks_below-count.result - 1) c.place_in-2.result c.index.result.now c.index-2.result.now c.self.invariant.0 (found g c) (there g c) c.place_in-2.ensures.within c.index.ensures

pub overflow_add-result : goal.overflow_add-result
overflow_add-result g c =
    let fits : c.index.result.now + c.place_in-2.result ≤ c.self.inside.len = omega (arith, within g (goal.at.overflow_add-result g c).After-place_in-2, c.self.invariant.1) in
    search rules

pub returns-clause-within : goal.returns-clause-within
returns-clause-within g c =
    omega (arith, within g (goal.at.returns-clause-within g c).After-place_in-2, ap (λ (l : List g.row.T.Denot). length l) c.self.view_is)

pub returns-clause-below : goal.returns-clause-below
returns-clause-below g c i x next e =
    let at = found g (goal.at.returns-clause-below g c).After-place_in-2 in
    let one : c.chunks_below-count.result - 1 + 1 ≡ c.chunks_below-count.result = omega (arith, c.if-count-eq0.false) in
    let some = some_way (λ (v : Vec g.row.T.Denot Global). v.items) g.K.KeyOf.key c.args.key c.index-2.result.now.items c.place_in-2.result (c.chunks_below-count.ensures.some (c.chunks_below-count.result - 1) c.index-2.result.now one at) (λ y here. c.chunks_below-count.ensures.below (c.chunks_below-count.result - 1) c.index-2.result.now y one at here) c.place_in-2.ensures.from in
    other_below (λ (v : Vec g.row.T.Denot Global). v.items) g.K.KeyOf.key c.args.key c.self.inside.front.items c.self.inside.chunks.items c.self.inside.starts.items (c.chunks_below-count.result - 1) c.place_in-2.result c.index.result.now c.index-2.result.now c.self.invariant.0 at (there g (goal.at.returns-clause-below g c).After-place_in-2) c.place_in-2.ensures.within c.index.ensures some c.place_in-2.ensures.below i x next (ap (λ (l : List g.row.T.Denot). slice_get l i) c.self.view_is ∙ e)

pub returns-clause-from : goal.returns-clause-from
returns-clause-from g c x e =
    let at = found g (goal.at.returns-clause-from g c).After-place_in-2 in
    let next : c.chunks_below-count.result ≡ suc (c.chunks_below-count.result - 1) = omega (arith, c.if-count-eq0.false) in
    let behind = ap (slice_get c.self.inside.chunks.items) next in
    other_from (λ (v : Vec g.row.T.Denot Global). v.items) g.K.KeyOf.key c.args.key c.self.inside.front.items c.self.inside.chunks.items c.self.inside.starts.items (c.chunks_below-count.result - 1) c.place_in-2.result c.index.result.now c.index-2.result.now c.self.invariant.0 at (there g (goal.at.returns-clause-from g c).After-place_in-2) c.place_in-2.ensures.within c.index.ensures c.place_in-2.ensures.from (λ v here. c.is_empty_at.ensures c.if-is_empty_at.false v (behind ∙ here)) (λ v y here there'. c.chunks_below-count.ensures.from v y (behind ∙ here) there') x (ap (λ (l : List g.row.T.Denot). slice_get l (c.index.result.now + c.place_in-2.result)) c.self.view_is ∙ e)
