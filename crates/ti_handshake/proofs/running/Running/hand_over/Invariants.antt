use Rattle.std.proofs.Common.{◌≡◌}
use Rattle.ti_handshake.proofs.running.Running.hand_over.Given as goal

abbrev pub invariant-loop : goal.invariant-loop
invariant-loop g l = l.thread ≡ l.initial.thread
