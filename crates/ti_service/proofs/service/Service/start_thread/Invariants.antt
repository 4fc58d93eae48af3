use Rattle.std.proofs.Common.{◌≡◌}
use Rattle.ti_service.proofs.Starts.{Goes}
use Rattle.ti_service.proofs.service.Service.start_thread.Given as goal

-- so far holds added nothing, and some of them found the thread barred
abbrev pub invariant-loop : goal.invariant-loop
invariant-loop g l = (l.self.cell ≡ l.fn.self.cell) × Goes l.fn.self.view l.fn.fresh l.self.view l.fresh
