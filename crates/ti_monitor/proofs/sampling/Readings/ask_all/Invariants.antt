use Rattle.std.proofs.Common.{◌≡◌, length}
use Rattle.ti_monitor.specs.Monitors.{orders_of}
use Rattle.ti_monitor.specs.Sampling.{AsksUpTo, sampling}
use Rattle.ti_monitor.proofs.sampling.Readings.ask_all.Given as goal

abbrev pub invariant-loop-place : goal.invariant-loop-place
invariant-loop-place l = record {
  asks : AsksUpTo l.place (sampling l.fn.agent l.fn.watched l.fn.self) (sampling l.agent l.watched l.self);
  many : length l.watched ≡ length l.fn.watched;
  orders : orders_of l.self.running.items ≡ orders_of l.fn.self.running.items;
}
