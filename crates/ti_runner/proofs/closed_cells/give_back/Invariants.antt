use Rattle.std.proofs.Common.{◌≡◌}
use Rattle.std.specs.List.{All}
use Rattle.std.specs.Vec.Iter.{into_iter_items}
use Rattle.ti_runner.specs.Cells.{AreBack, seats_at}
use Rattle.ti_runner.proofs.closed_cells.give_back.Given as goal

abbrev pub invariant-loop-done : goal.invariant-loop-done
invariant-loop-done l = All (λ c. seats_at c.seats.items ≡ l.cells) (into_iter_items l.done-iterator) × AreBack l.cells l.walked
