use Rattle.ti_agent.specs.Env.{Environment}
use Rattle.ti_service.proofs.Stopping.{as_refused, stop_home}
use Rattle.ti_service.proofs.agent_stops.EnvMembershipStopCalls.stop.Goals as goal

pub invariant_of-self : goal.invariant_of-self
invariant_of-self g c =
    let at = c.self.inside in
    let s : Environment = record { env = at.env; state = at.state; desks = at.desks } in
    let tried = c.stop in
    (c.self.invariant.0, stop_home at.home.service tried.new.self s at.home.waiting.items c.args.call tried.result tried.ensures.took (as_refused at.home.service tried.new.self c.args.call tried.result tried.ensures.refused) c.self.invariant.1)
