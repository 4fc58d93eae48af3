use Rattle.std.specs.Prelude.{◌≡◌}
use Rattle.ti_debugger.specs.Stopping.{once_let_go}
use Rattle.ti_debugger.proofs.StopLaws.{first_become}
use Rattle.ti_debugger.proofs.halted.Stops.let_go.Given as goal

abbrev pub invariant-loop-halted : goal.invariant-loop-halted
invariant-loop-halted l = l.halted-items ≡ first_become (once_let_go l.thread) l.halted-index l.fn.self.halted.items
