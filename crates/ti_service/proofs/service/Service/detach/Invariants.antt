use Rattle.std.proofs.Common.{◌≡◌}
use Rattle.ti_service.proofs.service.Service.detach.Given as goal

abbrev pub invariant-loop : goal.invariant-loop
invariant-loop g l = l.self ≡ l.initial.self
