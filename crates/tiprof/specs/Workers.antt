-- A worker's thread at its cell.
use Rattle.std.specs.Prelude.{Option, Some, None}
use Rattle.atomic_table.specs.Seated.{TableId}
use Rattle.ti_handshake.specs.Thread.{Runner}

-- the cell at which a thread runs, if it runs
abbrev pub cell_of : Option Runner → Option TableId
cell_of None = None
cell_of (Some r) = Some r.cell
