use Rattle.std.proofs.Common.{◌≤◌, length}
use Rattle.ti_service.specs.Agent.{AgentState}
use Rattle.ti_service.specs.LettingGo.{LetsGoBelow, LetsGoOfSome}
use Rattle.ti_service.specs.Memberships.{state_of}
use Rattle.ti_service.proofs.agent_tries.EnvMembershipServiceTries.let_go_of_all_now.Given as goal

-- what goes on from here has gone on from the beginning
abbrev pub invariant-loop-index : goal.invariant-loop-index
invariant-loop-index l =
    (l.index ≤ length l.self.env.desks)
    × ((new : AgentState) → LetsGoBelow l.index (state_of l.self) new → LetsGoBelow (length l.fn.self.env.desks) (state_of l.fn.self) new)
    × ((new : AgentState) → LetsGoOfSome (state_of l.self) new → LetsGoOfSome (state_of l.fn.self) new)

abbrev pub decreases-loop-index : goal.decreases-loop-index
decreases-loop-index l = l.index
