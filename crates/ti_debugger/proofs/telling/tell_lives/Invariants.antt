use Rattle.std.specs.Prelude.{◌≡◌}
use Rattle.ti_debugger.specs.Desks.{Watches}
use Rattle.ti_debugger.specs.Sessions.{due_in, session_in}
use Rattle.ti_debugger.specs.Told.{ToldOfLives}
use Rattle.ti_debugger.proofs.telling.tell_lives.Given as goal

abbrev pub invariant-loop : goal.invariant-loop
invariant-loop l = record {
  told : ToldOfLives (session_in l.fn.seat) (session_in l.seat);
  rest : Watches l.fn.desk l.desk;
  due : due_in l.seat ≡ due_in l.fn.seat;
}
