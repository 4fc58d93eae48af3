use Rattle.std.proofs.Common.{◌≡◌, ◌++◌, length}
use Rattle.std.specs.Vec.Iter.{into_iter_items}
use Rattle.ti_runner.specs.Cells.{AreBack, seats_at}
use Rattle.ti_runner.proofs.closed_cells.rejoin_all.Given as goal

abbrev pub invariant-loop-seat : goal.invariant-loop-seat
invariant-loop-seat l =
    (length l.yielded ≡ l.k) × (seats_at l.yielded ++ seats_at (into_iter_items l.seat-iterator) ≡ l.cells) × AreBack l.cells l.walked
