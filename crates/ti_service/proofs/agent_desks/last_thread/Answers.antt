use Rattle.ti_service.proofs.Leaving.{last_there}
use Rattle.ti_service.proofs.agent_desks.last_thread.Goals as goal

pub returns-clause-there : goal.returns-clause-there
returns-clause-there c = last_there c.args.agent.now.env.desks _ c.thread_at.result c.thread_at.ensures.thread c.thread_at.ensures.there
