use Rattle.std.proofs.Common.{◌≡◌, drop}
use Rattle.ti_monitor.specs.Monitors.{reading_in}
use Rattle.ti_monitor.proofs.sampling.Readings.place_of.Given as goal

abbrev pub invariant-loop-place : goal.invariant-loop-place
invariant-loop-place l = reading_in l.self.running.items l.no ≡ reading_in (drop l.place l.self.running.items) l.no
