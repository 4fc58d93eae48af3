use Rattle.std.proofs.Common.{arith, ap}
use Rattle.ti_replay.specs.Legal.{calls_spent}
use Rattle.ti_core.specs.Thread.{ThreadState}
use Rattle.ti_replay.proofs.EventLaws.{asked_paid}
use Rattle.ti_core.proofs.AskedLaws.{asked_whole}
use Rattle.ti_core.proofs.thread.OneThread.ask.Goals as goal

-- a call that is paid for has room
pub ask-requires-clause-room : goal.ask-requires-clause-room
ask-requires-clause-room c = λ _.
    omega (arith, c.tickets.ensures.few c.args.env, asked_paid c.args.env c.self.inside.slot.history, c.self.invariant.wide, c.requires.calls, ap (λ (z : ThreadState). calls_spent c.args.env z.thread.history) c.self.view_is, ap (λ (z : ThreadState). z.thread.limits.calls) c.self.view_is)

pub invariant_of-self : goal.invariant_of-self
invariant_of-self c = asked_whole c.self.inside.slot c.ask.new.self c.self.inside.frames c.self.inside.log c.args.env c.args.call c.ask.result c.self.invariant c.ask.ensures.asked c.ask.ensures.legal
