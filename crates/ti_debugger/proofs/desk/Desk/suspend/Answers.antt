use Rattle.std.proofs.Common.{inr, refl}
use Rattle.ti_debugger.proofs.SuspendLaws.{at_thread}
use Rattle.ti_debugger.specs.Suspending.{IsSuspendedAs}
use Rattle.ti_debugger.proofs.desk.Desk.suspend.Goals as goal

pub returns-clause-suspends : goal.returns-clause-suspends
returns-clause-suspends c =
    let tells = IsSuspendedAs c.suspend_at.result c.args.self.now.agent.env c.suspend_at.new.agent.env in
    inr (at_thread c.args.self.now.crowd.list.items _ c.in-Some.place c.args.thread c.index_mut.result.now c.suspend_at.new.one tells c.in-Some.ensures.within c.in-Some.ensures.found c.index_mut.ensures.value refl c.suspend_at.ensures.suspended)
