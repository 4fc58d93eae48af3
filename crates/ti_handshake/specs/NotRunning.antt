-- A thread that does not run yet.
use Rattle.ti_types.specs.declared.entry.Entry.{Entry}
use Rattle.ti_types.specs.declared.entry.Entry.TheVariants.{Start, Back}
use Rattle.ti_cell.specs.Seats.{Sitting}
use Rattle.ti_handshake.specs.declared.not_running.NotRunning.{NotRunning}
use Rattle.ti_handshake.specs.declared.not_running.NotRunning.TheVariants.{Fresh, Safe}

-- its seat
abbrev pub seat_in : NotRunning → Sitting
seat_in (Fresh s) = s
seat_in (Safe s) = s

-- the entry by which it runs
abbrev pub turn_in : NotRunning → Entry
turn_in (Fresh s) = Start
turn_in (Safe s) = Back
