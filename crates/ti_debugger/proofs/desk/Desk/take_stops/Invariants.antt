use Rattle.std.specs.Prelude.{◌≡◌}
use Rattle.ti_debugger.proofs.desk.Desk.take_stops.Given as goal

abbrev pub invariant-loop : goal.invariant-loop
invariant-loop l = l.self ≡ record l.fn.self { agent = l.self.agent; stops = l.self.stops }
