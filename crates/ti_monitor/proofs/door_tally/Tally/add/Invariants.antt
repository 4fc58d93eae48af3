use Rattle.std.specs.Prelude.{◌≡◌, ◌++◌, drop, map, take}
use Rattle.ti_monitor.specs.Door.{counted}
use Rattle.ti_monitor.proofs.door_tally.Tally.add.Given as goal

abbrev pub invariant-loop-place : goal.invariant-loop-place
invariant-loop-place l = take l.place l.self.rows ++ map (counted l.code) (drop l.place l.self.rows) ≡ map (counted l.code) l.fn.self.rows
