-- The cell of a thread on its walk.
use Rattle.std.specs.Prelude.{Result, Ok, Err}
use Rattle.atomic_table.specs.Seated.{TableId}
use Rattle.ti_types.specs.declared.error.TiError.{TiError}
use Rattle.ti_cell.specs.Seats.{Sitting}
use Rattle.ti_handshake.specs.Thread.{Runner}
use Rattle.ti_runner.specs.declared.thread_walk.Phase.{Phase}
use Rattle.ti_runner.specs.declared.thread_walk.Phase.TheVariants.{New, Runs, Rests, Over}

-- the cell of a thread, whatever its phase
abbrev pub cell_of : Phase → TableId
cell_of (New s) = s.cell
cell_of (Runs r) = r.cell
cell_of (Rests s) = s.cell
cell_of (Over s) = s.cell

-- the cell of the thread after a hand-over that was made or refused
abbrev pub cell_of_handed : Result Sitting (TiError × Runner) → TableId
cell_of_handed (Ok s) = s.cell
cell_of_handed (Err e) = e.1.cell
