use Rattle.std.proofs.Common.{subst}
use Rattle.ti_service.specs.Memberships.{AgentValue, state_of}
use Rattle.ti_service.specs.Telling.{TellsNext}
use Rattle.ti_service.proofs.agent_calls.EnvMembershipServiceCalls.next_event.Goals as goal

pub returns-in-Ok : goal.returns-in-Ok
returns-in-Ok g c = record {
  tells = subst (λ (a : AgentValue). TellsNext (state_of a) (state_of c.next_event_now.new.self) c.in-Ok.next) c.loop.invariant c.in-Ok.ensures.tells;
}
