use Rattle.ti_debugger.specs.Desks.{Watches}
use Rattle.ti_debugger.proofs.desk.Desk.watch_new.Given as goal

abbrev pub invariant-loop-index : goal.invariant-loop-index
invariant-loop-index l = Watches l.fn.self l.self
