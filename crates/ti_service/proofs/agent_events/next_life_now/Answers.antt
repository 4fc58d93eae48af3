use Rattle.ti_agent.specs.Env.{Environment}
use Rattle.ti_service.proofs.Tries.{held_or_busy, looked_home}
use Rattle.ti_service.proofs.agent_events.next_life_now.Goals as goal

pub invariant_of-agent : goal.invariant_of-agent
invariant_of-agent c =
    let at = c.agent.inside in
    let s : Environment = record { env = at.env; state = at.state; desks = at.desks } in
    let tried = c.tell_now in
    (c.agent.invariant.0, looked_home at.home.service tried.new.self s at.home.waiting.items (held_or_busy at.home.service tried.new.self tried.result tried.ensures.hold tried.ensures.busy) c.agent.invariant.1)

pub invariant_of-agent-2 : goal.invariant_of-agent-2
invariant_of-agent-2 c =
    let at = c.agent.inside in
    let s : Environment = record { env = at.env; state = at.state; desks = at.desks } in
    let tried = c.tell_now in
    (c.agent.invariant.0, looked_home at.home.service tried.new.self s at.home.waiting.items (held_or_busy at.home.service tried.new.self tried.result tried.ensures.hold tried.ensures.busy) c.agent.invariant.1)
