use Rattle.std.specs.Prelude.{◌≡◌, drop}
use Rattle.ti_monitor.specs.Stacks.{row_of}
use Rattle.ti_monitor.proofs.stacks.row_of.Given as goal

abbrev pub invariant-loop-row : goal.invariant-loop-row
invariant-loop-row l = row_of (drop l.row-index l.rows) l.thread ≡ row_of l.rows l.thread
