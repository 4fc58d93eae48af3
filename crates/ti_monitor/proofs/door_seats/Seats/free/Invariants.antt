use Rattle.std.specs.Prelude.{◌≡◌, is_some, take}
use Rattle.std.specs.List.{count_by}
use Rattle.ti_monitor.proofs.door_seats.Seats.free.Given as goal

abbrev pub invariant-loop-place : goal.invariant-loop-place
invariant-loop-place l = count_by is_some (take l.place l.self.list.items) ≡ l.place
