use Rattle.std.specs.Prelude.{◌≡◌, is_some, take}
use Rattle.std.specs.List.{count_by}
use Rattle.ti_monitor.proofs.door_seats.Seats.count.Given as goal

abbrev pub invariant-loop-seat : goal.invariant-loop-seat
invariant-loop-seat l = l.count ≡ count_by is_some (take l.seat-index l.self.list.items)
