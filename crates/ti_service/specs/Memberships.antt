-- An agent: an environment at home in the service.
use Rattle.ti_agent.specs.Home.{Housed}
use Rattle.ti_agent.specs.HousedTrace.{HousedTrace}
use Rattle.ti_service.specs.Agent.{AgentState}
use Rattle.ti_service.specs.declared.membership.Membership.{Membership}

-- an agent, as contracts see it
abbrev pub AgentValue : Type 0
AgentValue = Housed Membership

-- what it has, side by side
abbrev pub state_of : AgentValue → AgentState
state_of a = record { service = a.home.service; env = a.env; waiting = a.home.waiting.items; events = a.home.events; unmet = a.home.unmet }

-- a trace of several threads that an agent makes step by step
abbrev pub TraceValue : Type 0
TraceValue = HousedTrace Membership
