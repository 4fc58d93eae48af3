use Rattle.std.proofs.Common.{inr, subst}
use Rattle.ti_service.specs.Leaving.{StaysOn}
use Rattle.ti_service.specs.Memberships.{state_of}
use Rattle.ti_debugger.specs.Debuggers.{DebuggerValue}
use Rattle.ti_debugger.proofs.debugger.Debugger.finish.Goals as goal

pub returns-in-Err-clause-refused : goal.returns-in-Err-clause-refused
returns-in-Err-clause-refused c =
    inr (subst (λ (d : DebuggerValue). StaysOn (state_of d.agent) (state_of c.in-Err.desk.agent) c.in-Err.error) c.self.view_is c.in-Err.ensures.refused)
