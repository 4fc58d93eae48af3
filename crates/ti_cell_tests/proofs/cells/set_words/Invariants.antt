use Rattle.std.proofs.Common.{◌≡◌, ◌-◌}
use Rattle.ti_cell_tests.specs.Cells.{IsReady, sets}
use Rattle.ti_cell_tests.proofs.cells.set_words.Given as goal

abbrev pub invariant-loop-i : goal.invariant-loop-i
invariant-loop-i g l = IsReady l.cell l.env (100 - l.i) l.seat × (l.seat.view.mine ≡ sets l.env l.first l.i)
