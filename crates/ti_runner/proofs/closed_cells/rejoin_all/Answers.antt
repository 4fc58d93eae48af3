use Rattle.std.proofs.Common.{rules, ◌≡◌, ◌++◌, ◌∷◌, [], subst, sym, arith, refl, slice_index_or}
use Rattle.std.specs.Vec.Iter.{into_iter_items}
use Rattle.std.proofs.lemmas.List.{length-append, length-map}
use Rattle.ti_cell.specs.Seats.{Sitting}
use Rattle.ti_runner.specs.Cells.{IsBack, seats_at}
use Rattle.ti_runner.proofs.Owners.{seam_on, seam_within, back_set}
use Rattle.ti_runner.proofs.closed_cells.rejoin_all.Goals as goal

pub loop-seat-preserved : goal.loop-seat-preserved
loop-seat-preserved c =
    let at = c.loop-seat in
    let seat = c.in-Some.seat in
    let rest = into_iter_items c.next.new.self in
    let cells = c.args.cells.now in
    let cell = c.index-cells-k.result in
    let steps : into_iter_items at.seat-iterator ≡ seat ∷ rest = c.in-Some.ensures.steps.0 in
    let was = subst (λ l. seats_at at.yielded ++ seats_at l ≡ cells) steps at.invariant.1 in
    let within = seam_within (seats_at at.yielded) seat.cell (seats_at rest) cells was in
    let short = length-map at.yielded (λ (s : Sitting). s.cell) in
    let place : slice_index_or cells at.k cell ≡ cell = search rules in (
      omega (arith, at.invariant.0, length-append at.yielded (seat ∷ [])),
      seam_on (λ (s : Sitting). s.cell) at.yielded seat seat.cell (seats_at rest) cells was refl,
      back_set cells at.walked at.k cell c.rejoin.new.done at.invariant.2 (omega (arith, within, short, at.invariant.0)) (subst (λ z. IsBack z c.rejoin.new.done.seat) (sym place) c.rejoin.ensures.back),
    )
