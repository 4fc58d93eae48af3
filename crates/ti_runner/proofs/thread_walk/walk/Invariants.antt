use Rattle.std.proofs.Common.{◌≡◌}
use Rattle.ti_runner.specs.Walks.{cell_of}
use Rattle.ti_runner.proofs.thread_walk.walk.Given as goal

abbrev pub invariant-loop-operation : goal.invariant-loop-operation
invariant-loop-operation g l = cell_of l.phase ≡ l.fn.fresh.cell
