use Rattle.std.specs.Prelude.{◌≡◌, ◌≤◌}
use Rattle.ti_debugger.specs.Stopping.{stopped_in}
use Rattle.ti_debugger.proofs.desk.Desk.let_go_on.Given as goal

abbrev pub invariant-loop-index : goal.invariant-loop-index
invariant-loop-index l = record {
  rest : l.self ≡ record l.fn.self { agent = l.self.agent; stops = record l.fn.self.stops { halted = l.self.stops.halted }; resumptions = l.self.resumptions };
  stopped : stopped_in l.self.stops.halted.items ≡ stopped_in l.fn.self.stops.halted.items;
  grows : l.fn.self.resumptions ≤ l.self.resumptions;
}
