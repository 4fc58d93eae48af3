use Rattle.std.proofs.Common.{◌+◌, length}
use Rattle.ti_service.specs.Agent.{AgentState}
use Rattle.ti_service.specs.Meeting.{MakesRoom}
use Rattle.ti_service.specs.Memberships.{state_of}
use Rattle.ti_service.proofs.agent_meetings.add_all_now.Given as goal

-- what makes room from here has made room from the beginning
abbrev pub invariant-loop-error : goal.invariant-loop-error
invariant-loop-error l = (new : AgentState) → MakesRoom (state_of l.agent) new → MakesRoom (state_of l.fn.agent) new

abbrev pub decreases-loop-error : goal.decreases-loop-error
decreases-loop-error l = length l.agent.env.desks + length l.agent.home.waiting.items
