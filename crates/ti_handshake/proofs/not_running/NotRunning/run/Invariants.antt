use Rattle.std.proofs.Common.{◌≡◌, []}
use Rattle.ti_handshake.specs.Call.{Waits}
use Rattle.ti_handshake.specs.NotRunning.{seat_in, turn_in}
use Rattle.ti_handshake.proofs.not_running.NotRunning.run.Given as goal

abbrev pub invariant-loop : goal.invariant-loop
invariant-loop g l = ((seat_in l.not_running).cell ≡ (seat_in l.initial.not_running).cell) × Waits (seat_in l.initial.not_running).view (seat_in l.not_running).view [] × (turn_in l.not_running ≡ turn_in l.initial.not_running)
