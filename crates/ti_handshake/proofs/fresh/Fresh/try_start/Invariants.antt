use Rattle.std.proofs.Common.{◌≡◌}
use Rattle.ti_handshake.proofs.fresh.Fresh.try_start.Given as goal

abbrev pub invariant-loop : goal.invariant-loop
invariant-loop g l = l.thread ≡ l.initial.thread
