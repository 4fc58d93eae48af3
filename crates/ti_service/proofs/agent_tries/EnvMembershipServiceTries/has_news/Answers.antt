use Rattle.ti_agent.specs.Env.{Environment}
use Rattle.ti_service.proofs.Homes.{home_of_ours, looked_at, ours_of}
use Rattle.ti_service.proofs.agent_tries.EnvMembershipServiceTries.has_news.Goals as goal

pub invariant_of-self : goal.invariant_of-self
invariant_of-self c =
    let at = c.self.inside in
    let s : Environment = record { env = at.env; state = at.state; desks = at.desks } in
    let waits = at.home.waiting.items in
    let ours = ours_of at.home.service s waits c.self.invariant.1.0 c.self.invariant.1.1 in
    (c.self.invariant.0, home_of_ours c.has_news-looked.new.self s waits (looked_at at.home.service c.has_news-looked.new.self s waits c.has_news-looked.result c.has_news-looked.ensures.tells ours))
