-- What stays where a call is refused.
use Rattle.std.specs.Prelude.{◌≡◌, None}
use Rattle.ti_jdwp.specs.Talks.{Talk}
use Rattle.ti_debugger.specs.declared.debugger_error.DebuggerError.{DebuggerError}
use Rattle.ti_debugger.specs.declared.debugger_error.DebuggerError.TheVariants as error
use Rattle.ti_debugger.specs.Debuggers.{DebuggerValue}
use Rattle.ti_debugger.specs.Sessions.{Changes}

-- no debugger is connected, and nothing changes
abbrev pub HasNone : DebuggerValue → DebuggerValue → DebuggerError → Type 0
HasNone old new e = (e ≡ error.NoDebugger) × (old.session ≡ None) × (new ≡ old)

-- the same, or there is no memory, and the session becomes another so
abbrev pub Refuses : (Talk → Talk → Type 0) → DebuggerValue → DebuggerValue → DebuggerError → Type 0
Refuses becomes old new error.NoDebugger = HasNone old new error.NoDebugger
Refuses becomes old new error.OutOfMemory = Changes old.session new.session becomes
