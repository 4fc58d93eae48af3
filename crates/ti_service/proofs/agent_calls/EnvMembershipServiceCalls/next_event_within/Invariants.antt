use Rattle.std.proofs.Common.{ℕ}
use Rattle.ti_service.specs.Memberships.{state_of}
use Rattle.ti_service.specs.Telling.{TellsNothing}
use Rattle.ti_service.proofs.agent_calls.EnvMembershipServiceCalls.next_event_within.Given as goal

-- so far it was told of nothing
abbrev pub invariant-loop : goal.invariant-loop
invariant-loop g l = (n : ℕ) × TellsNothing n (state_of l.fn.self) (state_of l.self)
