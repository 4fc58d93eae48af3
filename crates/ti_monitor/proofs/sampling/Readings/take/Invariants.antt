use Rattle.std.proofs.Common.{◌≡◌, take}
use Rattle.ti_monitor.specs.Counted.{AreNamed, KnowsMore}
use Rattle.ti_monitor.proofs.sampling.Readings.take.Given as goal

abbrev pub invariant-loop-frame : goal.invariant-loop-frame
invariant-loop-frame l = record {
  named : AreNamed l.self.methods (take l.frame-index l.frames) l.self.stack.frames.items;
  grows : KnowsMore l.fn.self.methods l.self.methods;
  running : l.self.running ≡ l.fn.self.running;
  env : l.agent.env ≡ l.fn.agent.env;
}
