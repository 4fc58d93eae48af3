use Rattle.std.proofs.Common.{◌≡◌, ◌+◌, ◌≤◌, ◌++◌, length, map, Some}
use Rattle.std.specs.Prelude.{All, vec_capacity}
use Rattle.std.specs.Vec.Iter.{into_iter_items}
use Rattle.ti_handshake.specs.Desk.{DeskState}
use Rattle.ti_roster.specs.Rows.{IsUnused, free_at}
use Rattle.ti_roster.proofs.row.free_desks.Given as goal

abbrev pub invariant-loop-desk : goal.invariant-loop-desk
invariant-loop-desk l =
    (l.free.items ++ map (λ (d : DeskState). Some (free_at d)) (into_iter_items l.desk-iterator) ≡ map (λ (d : DeskState). Some (free_at d)) l.fn.desks.items)
    × (length l.free.items + length (into_iter_items l.desk-iterator) ≤ vec_capacity l.free)
    × All IsUnused (into_iter_items l.desk-iterator)
