use Rattle.std.specs.Prelude.{◌≡◌}
use Rattle.ti_debugger.specs.Pops.{Pops}
use Rattle.ti_debugger.proofs.desk.Desk.pop_all.Given as goal

abbrev pub invariant-loop-done : goal.invariant-loop-done
invariant-loop-done l = record {
  rest : l.self ≡ record l.fn.self { agent = l.self.agent };
  pops : Pops (record { 0 = l.fn.popping.thread }) l.done l.fn.self.agent.env l.self.agent.env;
}
