use Rattle.std.proofs.Common.{◌≡◌}
use Rattle.ti_service.proofs.agent_calls.EnvMembershipServiceCalls.set_event_notification_mode.Given as goal

abbrev pub invariant-loop : goal.invariant-loop
invariant-loop g l = l.self ≡ l.initial.self
