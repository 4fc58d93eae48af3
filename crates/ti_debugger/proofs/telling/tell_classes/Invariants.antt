use Rattle.std.specs.Prelude.{◌≡◌}
use Rattle.ti_service.specs.Classes.{classes_of}
use Rattle.ti_debugger.specs.Sessions.{due_in, session_in}
use Rattle.ti_debugger.specs.Told.{ToldBy}
use Rattle.ti_debugger.proofs.telling.tell_classes.Given as goal

abbrev pub invariant-loop : goal.invariant-loop
invariant-loop l = record {
  told : ToldBy (classes_of l.desk.agent) l.fn.desk.next_class l.desk.next_class (session_in l.fn.seat) (session_in l.seat);
  resumptions : l.desk.resumptions ≡ l.fn.desk.resumptions;
  about : l.desk.about ≡ l.fn.desk.about;
  starts : l.desk.starts ≡ l.fn.desk.starts;
  tells : l.desk.tells ≡ l.fn.desk.tells;
  asked : l.desk.asked ≡ l.fn.desk.asked;
  objects : l.desk.objects ≡ l.fn.desk.objects;
  due : due_in l.seat ≡ due_in l.fn.seat;
}
