-- A thread in any state.
use Rattle.std.specs.Prelude.{Bool, true, false}
use Rattle.ti_types.specs.declared.numbers.ThreadNo.{ThreadNo}
use Rattle.ti_thread.specs.declared.any_thread.AnyThread.{AnyThread}
use Rattle.ti_thread.specs.declared.any_thread.AnyThread.TheVariants.{Fresh, Running, Safe, Ended}

-- its number
abbrev pub number_in : AnyThread → ThreadNo
number_in (Fresh s) = s.view.subject.thread
number_in (Running r) = r.view.subject.thread
number_in (Safe s) = s.view.subject.thread
number_in (Ended s) = s.view.subject.thread

-- whether it runs
abbrev pub is_running : AnyThread → Bool
is_running (Fresh s) = false
is_running (Running r) = true
is_running (Safe s) = false
is_running (Ended s) = false

-- whether it may be given back: it has ended or never started
abbrev pub may_leave : AnyThread → Bool
may_leave (Fresh s) = true
may_leave (Running r) = false
may_leave (Safe s) = false
may_leave (Ended s) = true
