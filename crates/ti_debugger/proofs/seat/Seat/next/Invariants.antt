use Rattle.ti_debugger.specs.Desks.{Works}
use Rattle.ti_debugger.specs.Serving.{Going}
use Rattle.ti_debugger.proofs.seat.Seat.next.Given as goal

abbrev pub invariant-loop : goal.invariant-loop
invariant-loop l = record {
  goes : Going l.fn.now l.fn.self.session l.fn.self.due l.fn.desk l.self.session l.self.due l.desk;
  desk : Works l.fn.desk l.desk;
}
