-- What one environment asked for.
use Rattle.std.specs.Prelude.{◌≡◌, ◌==◌, ◌++◌, not, Bool, true, false, List, filter, Option, Some, None}
use Rattle.ti_types.specs.declared.numbers.EnvNo.{EnvNo}
use Rattle.ti_stops.specs.declared.call.StopCall.{StopCall}
use Rattle.ti_stops.specs.declared.call.StopCall.TheVariants.{Enable, Disable, SetBreakpoint, ClearBreakpoint, NotifyFramePop, Next, LetGo, Reached, Leaves, IsStopped, MayStopIn}
use Rattle.ti_stops.specs.declared.lists.Breakpoint.{Breakpoint}
use Rattle.ti_stops.specs.declared.lists.Mode.{Mode}
use Rattle.ti_stops.specs.declared.lists.Pop.{Pop}
use Rattle.ti_stops.specs.declared.lists.Waiting.{Waiting}
use Rattle.ti_stops.specs.Lists.{is_mode_of, is_breakpoint_of, is_pop_of, waits_for}
use Rattle.ti_stops.specs.Stops.{StopsNow, after}

pub record Asked : Type 0 where
  pub modes : List Mode
  pub breakpoints : List Breakpoint
  pub pops : List Pop

-- the modes, breakpoints and pops of an environment alone
abbrev pub own : EnvNo → StopsNow → Asked
own e s = record { modes = filter (is_mode_of e) s.modes; breakpoints = filter (is_breakpoint_of e) s.breakpoints; pops = filter (is_pop_of e) s.pops }

abbrev pub is_other : EnvNo → Option EnvNo → Bool
is_other e None = true
is_other e (Some f) = not (f.0 == e.0)

-- whether a call by an environment, or by a runtime, is none that changes what this environment asked for
abbrev pub is_apart : EnvNo → Option EnvNo → StopCall → Bool
is_apart e o (Leaves t at n) = false
is_apart e o (Reached t at) = true
is_apart e o (IsStopped t) = true
is_apart e o (MayStopIn t m n) = true
is_apart e o (Enable k t) = is_other e o
is_apart e o (Disable k t) = is_other e o
is_apart e o (SetBreakpoint at) = is_other e o
is_apart e o (ClearBreakpoint at) = is_other e o
is_apart e o (NotifyFramePop t n) = is_other e o
is_apart e o Next = is_other e o
is_apart e o (LetGo t) = is_other e o

abbrev pub OthersChangeNothing : Type 0
OthersChangeNothing = (s : StopsNow) (e : EnvNo) (o : Option EnvNo) (call : StopCall) → is_apart e o call ≡ true → own e (after s o call) ≡ own e s

-- whether a call is not this environment's
abbrev pub is_foreign : EnvNo → Option EnvNo → StopCall → Bool
is_foreign e o (Leaves t at n) = true
is_foreign e o (Reached t at) = true
is_foreign e o (IsStopped t) = true
is_foreign e o (MayStopIn t m n) = true
is_foreign e o (Enable k t) = is_other e o
is_foreign e o (Disable k t) = is_other e o
is_foreign e o (SetBreakpoint at) = is_other e o
is_foreign e o (ClearBreakpoint at) = is_other e o
is_foreign e o (NotifyFramePop t n) = is_other e o
is_foreign e o Next = is_other e o
is_foreign e o (LetGo t) = is_other e o

-- what waits for an environment, the longest first
abbrev pub waiting_for : EnvNo → StopsNow → List Waiting
waiting_for e s = filter (waits_for e) s.waiting

-- what waited for an environment still does, before what came since
abbrev pub StillWaits : EnvNo → StopsNow → StopsNow → Type 0
StillWaits e old new = (more : List Waiting) × (waiting_for e new ≡ waiting_for e old ++ more)

abbrev pub NobodyElseLetsGo : Type 0
NobodyElseLetsGo = (s : StopsNow) (e : EnvNo) (o : Option EnvNo) (call : StopCall) → is_foreign e o call ≡ true → StillWaits e s (after s o call)
