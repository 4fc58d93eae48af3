use Rattle.std.proofs.Common.{inr, rules}
use Rattle.ti_debugger.proofs.SuspendLaws.{at_thread}
use Rattle.ti_debugger.specs.Suspending.{IsResumed}
use Rattle.ti_debugger.proofs.desk.Desk.resume.Goals as goal

pub returns-clause-resumes : goal.returns-clause-resumes
returns-clause-resumes c =
    inr (at_thread c.args.self.now.crowd.list.items _ c.in-Some.place c.args.thread c.index_mut.result.now c.resume_at-resumed.new.one IsResumed c.in-Some.ensures.within c.in-Some.ensures.found c.index_mut.ensures.value (search rules) c.resume_at-resumed.ensures.resumed)
