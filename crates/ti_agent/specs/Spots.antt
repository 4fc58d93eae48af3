-- Where a desk is.
use Rattle.std.specs.Prelude.{List, map}
use Rattle.atomic_table.specs.Seated.{TableId}
use Rattle.ti_types.specs.declared.numbers.ThreadNo.{ThreadNo}
use Rattle.ti_handshake.specs.Desk.{DeskState}

-- the number of its thread, and a cell
pub record Spot : Type 0 where
  pub thread : ThreadNo
  pub cell : TableId

abbrev pub spot_of : DeskState → Spot
spot_of p = record { thread = p.view.subject.thread; cell = p.cell }

abbrev pub spots_of : List DeskState → List Spot
spots_of desks = map spot_of desks
