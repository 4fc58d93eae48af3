use Rattle.std.proofs.Common.{◌≡◌, length}
use Rattle.ti_service.specs.Leaving.{Clears}
use Rattle.ti_service.specs.Memberships.{state_of}
use Rattle.ti_service.proofs.agent_calls.clear.Given as goal

abbrev pub invariant-loop-thread : goal.invariant-loop-thread
invariant-loop-thread g l = (l.agent.home.service ≡ l.fn.agent.home.service) × Clears (state_of l.fn.agent) (state_of l.agent) × (l.agent.home.events ≡ l.fn.agent.home.events) × (l.agent.home.unmet ≡ l.fn.agent.home.unmet)

abbrev pub decreases-loop-thread : goal.decreases-loop-thread
decreases-loop-thread g l = length l.agent.env.desks
