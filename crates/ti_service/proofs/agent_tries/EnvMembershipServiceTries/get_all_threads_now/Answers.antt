use Rattle.ti_agent.specs.Env.{Environment}
use Rattle.ti_service.proofs.Tries.{held_or_refused, looked_home}
use Rattle.ti_service.proofs.agent_tries.EnvMembershipServiceTries.get_all_threads_now.Goals as goal

pub invariant_of-self : goal.invariant_of-self
invariant_of-self c =
    let at = c.self.inside in
    let s : Environment = record { env = at.env; state = at.state; desks = at.desks } in
    let tried = c.get_all_threads_now in
    (c.self.invariant.0, looked_home at.home.service tried.new.self s at.home.waiting.items (held_or_refused at.home.service tried.new.self tried.result tried.ensures.hold tried.ensures.refused) c.self.invariant.1)
