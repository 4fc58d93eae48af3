-- What a call leaves of a desk, and what contracts see of it.
use Rattle.std.specs.Prelude.{◌≡◌, ◌≤◌, Option}
use Rattle.ti_debugger.specs.declared.desk.Desk.{Desk}
use Rattle.ti_debugger.specs.declared.seat.Seat.{Seat}
use Rattle.ti_debugger.specs.Debuggers.{DebuggerValue}
use Rattle.ti_debugger.specs.Sessions.{due_in, session_in}

abbrev pub debugger_of : Option Seat → Desk → DebuggerValue
debugger_of seat desk = record {
  session = session_in seat;
  due = due_in seat;
  watched = desk.crowd.list.items;
  agent = desk.agent;
  about = desk.about;
  next_class = desk.next_class;
  resumptions = desk.resumptions;
  starts = desk.starts;
  tells = desk.tells;
  asked = desk.asked;
  objects = desk.objects.list.items;
  numbers = desk.objects.numbers;
}

-- threads are met, watched and let go of, and no thread is resumed
pub record Watches (old new : Desk) : Type 0 where
  pub classes : new.next_class ≡ old.next_class
  pub resumptions : new.resumptions ≡ old.resumptions
  pub about : new.about ≡ old.about
  pub starts : new.starts ≡ old.starts
  pub tells : new.tells ≡ old.tells
  pub asked : new.asked ≡ old.asked
  pub objects : new.objects ≡ old.objects

-- threads are suspended, asked and resumed, and the runtime is asked
pub record Works (old new : Desk) : Type 0 where
  pub classes : new.next_class ≡ old.next_class
  pub resumptions : old.resumptions ≤ new.resumptions
  pub about : new.about ≡ old.about
  pub starts : new.starts ≡ old.starts
  pub tells : new.tells ≡ old.tells
  pub numbers : new.objects.numbers ≡ old.objects.numbers
