use Rattle.std.proofs.Common.{◌≡◌, take, ◌≤◌}
use Rattle.ti_monitor.specs.Monitors.{profiles_in}
use Rattle.ti_monitor.proofs.sampling.Readings.profiles.Given as goal

abbrev pub invariant-loop-reading : goal.invariant-loop-reading
invariant-loop-reading l = record {
  some : l.profiles ≡ profiles_in (take l.reading-index l.self.running.items);
  few : l.profiles ≤ l.reading-index;
}
