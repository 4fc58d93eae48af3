use Rattle.std.proofs.Common.{◌∙◌, arith}
use Rattle.ti_service.proofs.Leaving.{as_many_desks, quiets_more}
use Rattle.ti_service.proofs.agent_tries.settle_each_now.Goals as goal

pub loop-index-preserved : goal.loop-index-preserved
loop-index-preserved c =
    let at = c.loop-index.agent.env in
    let new = c.settle_now.new.self.env in
    let e = c.in_ok-settle_now.ensures in
    let many = as_many_desks at new c.in-Some.thread e.steps in (
      omega (arith, many, c.loop-index.invariant.0, c.loop-index-test.true),
      quiets_more c.args.agent.now.env at new c.in-Some.thread c.loop-index.invariant.1 e.steps,
      e.home ∙ c.loop-index.invariant.2,
    )

pub returns-in_err-settle_now-clause-quiets : goal.returns-in_err-settle_now-clause-quiets
returns-in_err-settle_now-clause-quiets c =
    quiets_more c.args.agent.now.env c.loop-index.agent.env c.settle_now.new.self.env c.in-Some.thread c.loop-index.invariant.1 c.in_err-settle_now.ensures.steps
