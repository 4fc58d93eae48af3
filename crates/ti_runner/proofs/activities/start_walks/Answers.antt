use Rattle.std.proofs.Common.{rules, ◌≡◌, ◌++◌, ◌∷◌, subst, sym, map, ◌∙◌, ap, length, slice_index_or}
use Rattle.std.specs.Vec.Iter.{into_iter_items}
use Rattle.std.proofs.lemmas.List.{length-map}
use Rattle.ti_runner.specs.Cells.{seats_at}
use Rattle.ti_runner.proofs.Owners.{seam, seam_on}
use Rattle.ti_runner.proofs.activities.start_walks.Goals as goal

pub loop-fresh-preserved : goal.loop-fresh-preserved
loop-fresh-preserved g c =
    let at = c.loop-fresh in
    let own = c.in-Some.fresh in
    let rest = into_iter_items c.next.new.self in
    let steps : into_iter_items at.fresh-iterator ≡ own ∷ rest = c.in-Some.ensures.steps.0 in
    let one = c.in_ok-start_walk.field-0 in
    let was = subst (λ l. map (λ h. h.promise.0.now) at.walkers.items ++ seats_at l ≡ c.args.cells.now) steps at.invariant.0 in
    let place = seam (map (λ h. h.promise.0.now) at.walkers.items) own.cell (seats_at rest) c.args.cells.now c.index-cells-k.result was in
    let short = length-map at.walkers.items (λ h. h.promise.0.now) in
    let this : slice_index_or c.args.cells.now c.len-k.result c.index-cells-k.result ≡ c.index-cells-k.result = search rules in
    let front : length (map (λ h. h.promise.0.now) at.walkers.items) ≡ c.len-k.result = short ∙ search rules in
    let here : one.promise.0.now ≡ own.cell = c.in_ok-start_walk.ensures ∙ sym this ∙ ap (λ k. slice_index_or c.args.cells.now k c.index-cells-k.result) (sym front) ∙ place in (
      ap (λ l. map (λ h. h.promise.0.now) l ++ seats_at rest) c.push_reserved.ensures.items ∙ seam_on (λ h. h.promise.0.now) at.walkers.items one own.cell (seats_at rest) c.args.cells.now was here,
      search rules,
    )
