use Rattle.std.proofs.Common.{◌∙◌, rules}
use Rattle.ti_agent.specs.Quiesced.{MayQuiesce}
use Rattle.ti_agent.proofs.Quiescing.{quiesce_then}
use Rattle.ti_agent.proofs.env.Env.quiesce.Given.{Over}
use Rattle.ti_agent.proofs.env.Env.quiesce.Goals.{After-wake_sleepers_at}
use Rattle.ti_agent.proofs.env.Env.quiesce.Goals as goal

-- after one try
tried : (g : Over) (c : After-wake_sleepers_at g) → MayQuiesce c.args.self.now.env c.quiesce_now-tried.new.self.env c.args.thread
tried g c = quiesce_then c.args.self.now.env c.loop.self.env c.quiesce_now-tried.new.self.env c.args.thread c.loop.invariant.0 c.quiesce_now-tried.ensures.steps

pub returns-in-Ok-true-clause-steps : goal.returns-in-Ok-true-clause-steps
returns-in-Ok-true-clause-steps g c = tried g (goal.at.returns-in-Ok-true-clause-steps g c).After-wake_sleepers_at

pub loop-preserved-in-Ok-false : goal.loop-preserved-in-Ok-false
loop-preserved-in-Ok-false g c = (
  quiesce_then c.args.self.now.env c.quiesce_now-tried.new.self.env c.await_news_at.new.self.env c.args.thread (tried g (goal.at.loop-preserved-in-Ok-false g c).After-wake_sleepers_at) c.await_news_at.ensures.steps,
  c.await_news_at.ensures.home ∙ (c.quiesce_now-tried.ensures.home ∙ c.loop.invariant.1),
)

pub loop-preserved : goal.loop-preserved
loop-preserved g c = (tried g (goal.at.loop-preserved g c).After-wake_sleepers_at, c.quiesce_now-tried.ensures.home ∙ c.loop.invariant.1)

pub returns-in-Err : goal.returns-in-Err
returns-in-Err g c =
    let steps = tried g (goal.at.returns-in-Err g c).After-wake_sleepers_at in
    let home = c.quiesce_now-tried.ensures.home ∙ c.loop.invariant.1 in
    record { quiet = tt; steps = steps; memory = search rules; home = home }
