use Rattle.std.proofs.Common.{◌≡◌}
use Rattle.ti_monitor.specs.Monitors.{orders_of}
use Rattle.ti_monitor.specs.Counted.{TakesBackAt}
use Rattle.ti_monitor.proofs.SamplingLaws.{EachFirst}
use Rattle.ti_monitor.proofs.sampling.Readings.take_back.Given as goal

abbrev pub invariant-loop-reading : goal.invariant-loop-reading
invariant-loop-reading l = record {
  takes : EachFirst (TakesBackAt l.place) l.reading-index l.fn.self.running.items l.reading-items;
  orders : orders_of l.reading-items ≡ orders_of l.fn.self.running.items;
}
