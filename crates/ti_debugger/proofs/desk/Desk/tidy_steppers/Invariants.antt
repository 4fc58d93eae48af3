use Rattle.std.specs.Prelude.{◌≡◌}
use Rattle.ti_debugger.proofs.desk.Desk.tidy_steppers.Given as goal

abbrev pub invariant-loop-index : goal.invariant-loop-index
invariant-loop-index l = l.self ≡ record l.fn.self { agent = l.self.agent; stops = l.self.stops }
