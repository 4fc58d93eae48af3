use Rattle.ti_agent.proofs.Quiescing.{quiesce_then}
use Rattle.ti_agent.proofs.env.Env.quiesce_now.Goals as goal

pub returns-in_err-discard_all_now-clause-steps : goal.returns-in_err-discard_all_now-clause-steps
returns-in_err-discard_all_now-clause-steps g c =
    quiesce_then c.args.self.now.env c.cancel_all_now.new.self.env c.discard_all_now.new.self.env c.args.thread c.in_ok-cancel_all_now.ensures.steps c.in_err-discard_all_now.ensures.steps

pub returns-clause-steps : goal.returns-clause-steps
returns-clause-steps g c =
    quiesce_then c.args.self.now.env c.cancel_all_now.new.self.env c.discard_all_now.new.self.env c.args.thread c.in_ok-cancel_all_now.ensures.steps c.in_ok-discard_all_now.ensures.steps
