use Rattle.std.proofs.Common.{◌∙◌}
use Rattle.ti_agent.specs.Quiesced.{MayQuiesce}
use Rattle.ti_agent.proofs.Quiescing.{nobody_then, quiesce_then, retires_then, same_then}
use Rattle.ti_agent.proofs.env.Env.clear_desk.Given.{Over}
use Rattle.ti_agent.proofs.env.Env.clear_desk.Goals.{After-settle}
use Rattle.ti_agent.proofs.env.Env.clear_desk.Goals as goal

-- once it has settled
settled : (g : Over) (c : After-settle g) → MayQuiesce c.args.self.now.env c.settle.new.self.env c.args.thread
settled g c = quiesce_then c.args.self.now.env c.loop.self.env c.settle.new.self.env c.args.thread c.loop.invariant.0 c.settle.ensures.steps

pub returns-in-Err-clause-steps : goal.returns-in-Err-clause-steps
returns-in-Err-clause-steps g c = settled g (goal.at.returns-in-Err-clause-steps g c).After-settle

pub returns-in-Ok-clear_desk_now-clause-cleared : goal.returns-in-Ok-clear_desk_now-clause-cleared
returns-in-Ok-clear_desk_now-clause-cleared g c =
    retires_then c.args.self.now.env c.settle.new.self.env c.clear_desk_now.new.self.env c.args.thread c.in-Ok-clear_desk_now.cleared (settled g (goal.at.returns-in-Ok-clear_desk_now-clause-cleared g c).After-settle) c.in-Ok-clear_desk_now.ensures.cleared

pub returns-in-Ok-clear_desk_now-clause-nobody : goal.returns-in-Ok-clear_desk_now-clause-nobody
returns-in-Ok-clear_desk_now-clause-nobody g c =
    nobody_then c.args.self.now.env c.settle.new.self.env c.args.thread c.in-Ok-clear_desk_now.cleared (settled g (goal.at.returns-in-Ok-clear_desk_now-clause-nobody g c).After-settle) c.in-Ok-clear_desk_now.ensures.nobody

pub returns-in-Ok-clear_desk_now-clause-same : goal.returns-in-Ok-clear_desk_now-clause-same
returns-in-Ok-clear_desk_now-clause-same g c =
    same_then c.args.self.now.env c.settle.new.self c.clear_desk_now.new.self c.args.thread c.in-Ok-clear_desk_now.cleared (settled g (goal.at.returns-in-Ok-clear_desk_now-clause-same g c).After-settle) c.in-Ok-clear_desk_now.ensures.same

pub returns-in-Err-clear_desk_now-clause-steps : goal.returns-in-Err-clear_desk_now-clause-steps
returns-in-Err-clear_desk_now-clause-steps g c =
    quiesce_then c.args.self.now.env c.settle.new.self.env c.clear_desk_now.new.self.env c.args.thread (settled g (goal.at.returns-in-Err-clear_desk_now-clause-steps g c).After-settle) c.in-Err-clear_desk_now.ensures.steps

pub loop-preserved : goal.loop-preserved
loop-preserved g c = (
  quiesce_then c.args.self.now.env c.settle.new.self.env c.clear_desk_now.new.self.env c.args.thread (settled g (goal.at.loop-preserved g c).After-settle) c.in-Err-Busy.ensures.steps,
  c.clear_desk_now.ensures.home ∙ (c.settle.ensures.home ∙ c.loop.invariant.1),
)
