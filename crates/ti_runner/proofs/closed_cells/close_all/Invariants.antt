use Rattle.std.specs.Vec.Iter.{into_iter_items}
use Rattle.ti_runner.specs.Cells.{AreBack}
use Rattle.ti_runner.proofs.closed_cells.close_all.Given as goal

abbrev pub invariant-loop-done : goal.invariant-loop-done
invariant-loop-done l = AreBack (into_iter_items l.cells) (into_iter_items l.done-iterator)
