use Rattle.std.proofs.Common.{◌≡◌}
use Rattle.ti_handshake.proofs.desk.Desk.post.Given as goal

abbrev pub invariant-loop : goal.invariant-loop
invariant-loop g l = (l.self ≡ l.initial.self) × (l.buf ≡ l.initial.buf)
