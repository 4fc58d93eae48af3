use Rattle.std.specs.Prelude.{◌≡◌}
use Rattle.ti_debugger.specs.Desks.{Works}
use Rattle.ti_debugger.specs.Sessions.{due_in, session_in}
use Rattle.ti_debugger.specs.Told.{ToldOfLives}
use Rattle.ti_debugger.proofs.halting.tend_stops.Given as goal

abbrev pub invariant-loop-index : goal.invariant-loop-index
invariant-loop-index l = record {
  told : ToldOfLives (session_in l.fn.seat) (session_in l.seat);
  rest : Works l.fn.desk l.desk;
  asked : l.desk.asked ≡ l.fn.desk.asked;
  objects : l.desk.objects ≡ l.fn.desk.objects;
  due : due_in l.seat ≡ due_in l.fn.seat;
}
