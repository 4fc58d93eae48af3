use Rattle.std.proofs.Common.{◌≡◌, List}
use Rattle.ti_cell.specs.declared.look.Look.{Look}
use Rattle.ti_handshake.specs.Call.{with_looks}
use Rattle.ti_handshake.proofs.waits.await_news.Given as goal

abbrev pub invariant-loop : goal.invariant-loop
invariant-loop g l = (l.seat.cell ≡ l.initial.seat.cell) × ((looks : List Look) × (l.seat.view ≡ with_looks l.initial.seat.view looks))
