use Rattle.std.proofs.Common.{◌≡◌, ◌+◌, ◌≤◌, ◌++◌, length, map}
use Rattle.std.specs.Prelude.{All, vec_capacity}
use Rattle.std.specs.Vec.Iter.{into_iter_items}
use Rattle.ti_handshake.specs.NewDesks.{IsSeatAt, desk_at}
use Rattle.ti_handshake.proofs.shared_cell.desks_of.Given as goal

abbrev pub invariant-loop-seat : goal.invariant-loop-seat
invariant-loop-seat l =
    (l.desks.items ++ map desk_at (into_iter_items l.seat-iterator) ≡ map desk_at l.fn.seats.items)
    × (length l.desks.items + length (into_iter_items l.seat-iterator) ≤ vec_capacity l.desks)
    × All (IsSeatAt l.fn.cell) (into_iter_items l.seat-iterator)
