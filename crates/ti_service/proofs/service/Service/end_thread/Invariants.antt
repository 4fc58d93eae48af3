use Rattle.std.proofs.Common.{◌≡◌}
use Rattle.ti_service.proofs.Starts.{GoesOn}
use Rattle.ti_service.proofs.service.Service.end_thread.Given as goal

-- so far holds added nothing
abbrev pub invariant-loop : goal.invariant-loop
invariant-loop g l = (l.self.cell ≡ l.fn.self.cell) × (l.running ≡ l.fn.running) × GoesOn l.fn.self.view l.self.view
