-- A thread that comes to a place, whether it reached it or leaves a frame there.
use Rattle.std.specs.Prelude.{ℕ, ◌++◌, List, [], Option, Some, None}
use Rattle.ti_types.specs.declared.numbers.EnvNo.{EnvNo}
use Rattle.ti_types.specs.declared.numbers.ThreadNo.{ThreadNo}
use Rattle.ti_types.specs.declared.place.Frame.{Frame}
use Rattle.ti_stops.specs.declared.lists.Arrival.{Arrival}
use Rattle.ti_stops.specs.declared.lists.Breakpoint.{Breakpoint}
use Rattle.ti_stops.specs.declared.lists.Mode.{Mode}
use Rattle.ti_stops.specs.declared.lists.Pop.{Pop}
use Rattle.ti_stops.specs.declared.stop.Stop.{Stop}
use Rattle.ti_stops.specs.Stops.{StopsNow, reached_by, left_by, waits_by}

-- what environments asked for, where nobody waits
abbrev pub asked : List Mode → List Breakpoint → List Pop → StopsNow
asked modes breakpoints pops = record { envs = []; modes = modes; breakpoints = breakpoints; pops = pops; waiting = [] }

abbrev pub stop_of : StopsNow → ThreadNo → Frame → Option ℕ → EnvNo → Stop
stop_of s t at None e = reached_by s t at e
stop_of s t at (Some n) e = left_by s t at n e

-- the stop for an environment
abbrev pub stop_by : StopsNow → Arrival → EnvNo → Stop
stop_by s a e = stop_of s a.thread a.at a.leaves e

-- the same, by what environments asked for
abbrev pub stop_in : StopsNow → Arrival → EnvNo → Stop
stop_in s a = stop_by (asked s.modes s.breakpoints s.pops) a

-- the thread waits for each environment for which it stops
abbrev pub arrived : StopsNow → Arrival → StopsNow
arrived s a = record s { waiting = s.waiting ++ waits_by (stop_in s a) s.envs }
