-- The numbers of the errors.
use Rattle.std.specs.Prelude.{ℕ}
use Rattle.ti_debugger.specs.declared.debugger_error.DebuggerError.{DebuggerError}
use Rattle.ti_debugger.specs.declared.debugger_error.DebuggerError.TheVariants as error
use Rattle.ti_debugger.specs.declared.question.TellError.{TellError}
use Rattle.ti_debugger.specs.declared.question.TellError.TheVariants as tell_error

-- JVM TI's numbers
abbrev pub tell_number : TellError → ℕ
tell_number tell_error.IllegalArgument = 103
tell_number tell_error.OutOfMemory = 110
tell_number tell_error.NotAsked = 112

abbrev pub number_of : DebuggerError → ℕ
number_of error.OutOfMemory = 110
number_of error.NoDebugger = 112
