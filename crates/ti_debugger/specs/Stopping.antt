-- What a reply says where the service refuses a call about stops, and which threads stay stopped.
use Rattle.std.specs.Prelude.{ℕ, ◌==◌, ◌&&◌, Bool, true, false, not, List, filter, if◌then◌else◌}
use Rattle.ti_jdwp.specs.declared.error.JdwpError.TheVariants as wire
use Rattle.ti_stops.specs.declared.error.StopError.{StopError}
use Rattle.ti_stops.specs.declared.error.StopError.TheVariants as stop
use Rattle.ti_debugger.specs.declared.halted.Halted.{Halted}
use Rattle.ti_debugger.specs.declared.halted.Stage.{Stage}
use Rattle.ti_debugger.specs.declared.halted.Stage.TheVariants as stage
use Rattle.ti_debugger.specs.declared.refusal.Refusal.{Refusal}
use Rattle.ti_debugger.specs.declared.refusal.Refusal.TheVariants as refusal

abbrev pub stop_refusal : StopError → Refusal
stop_refusal stop.InvalidMethod = refusal.Error wire.InvalidMethodId
stop_refusal stop.InvalidLocation = refusal.Error wire.InvalidLocation
stop_refusal stop.Busy = refusal.Later
stop_refusal _ = refusal.Error wire.OutOfMemory

-- the session was told of the stop, and has not let the thread go
abbrev pub is_told : Stage → Bool
is_told stage.New = false
is_told stage.Told = true
is_told (stage.RunsTo frames) = false
is_told stage.Goes = false

-- nobody wants the thread to stop here any more
abbrev pub may_go : Stage → Bool
may_go stage.New = false
may_go stage.Told = false
may_go (stage.RunsTo frames) = true
may_go stage.Goes = true

-- a thread that stopped, once the session lets the one with this number go
abbrev pub once_let_go : ℕ → Halted → Halted
once_let_go thread h = if (h.stop.thread.0 == thread) && is_told h.stage then record h { stage = stage.Goes } else h

-- the threads that stay stopped
abbrev pub stopped_in : List Halted → List Halted
stopped_in list = filter (λ (h : Halted). not (may_go h.stage)) list
