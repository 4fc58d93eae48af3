use Rattle.std.proofs.Common.{◌≡◌, length}
use Rattle.ti_monitor.specs.Asking.{ProbesFirst}
use Rattle.ti_monitor.proofs.monitor.Monitor.probe_if_due.Given as goal

abbrev pub invariant-loop-place : goal.invariant-loop-place
invariant-loop-place l = record {
  probed : ProbesFirst l.place l.fn.self.agent l.self.agent l.fn.self.watched.items l.self.watched.items;
  many : length l.self.watched.items ≡ length l.fn.self.watched.items;
  rest : l.self ≡ record l.fn.self { agent = l.self.agent; watched = l.self.watched };
}
