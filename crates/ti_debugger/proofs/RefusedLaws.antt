-- Why a call is refused, where its session lacked memory.
use Rattle.std.proofs.Common.{◌≡◌, Result, Ok, Err, sym, subst}
use Rattle.std.specs.Prelude.{IfErr, IsErrAnd}
use Rattle.ti_jdwp.specs.Talks.{Talk}
use Rattle.ti_debugger.specs.declared.debugger_error.DebuggerError.{DebuggerError}
use Rattle.ti_debugger.specs.declared.debugger_error.DebuggerError.TheVariants as error
use Rattle.ti_debugger.specs.Debuggers.{DebuggerValue}
use Rattle.ti_debugger.specs.Refused.{Refuses}
use Rattle.ti_debugger.specs.Sessions.{Changes}

pub refused_by_memory : {T : Type 0} (becomes : Talk → Talk → Type 0) (old new : DebuggerValue) (r : Result T DebuggerError) → IsErrAnd r (λ e. e ≡ error.OutOfMemory)
    → Changes old.session new.session becomes → IfErr r (Refuses becomes old new)
refused_by_memory becomes old new (Ok x) fails changes = absurd fails
refused_by_memory becomes old new (Err e) fails changes = subst (λ (e' : DebuggerError). Refuses becomes old new e') (sym fails) changes
