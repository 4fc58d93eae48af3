use Rattle.std.proofs.Common.{[]}
use Rattle.ti_handshake.specs.Call.{Waits}
use Rattle.ti_handshake.specs.Desk.{IsSame}
use Rattle.ti_vmop.proofs.one_thread.await_one.Given as goal

abbrev pub invariant-loop : goal.invariant-loop
invariant-loop g l = IsSame l.initial.desk l.desk × Waits l.initial.desk.view l.desk.view []
