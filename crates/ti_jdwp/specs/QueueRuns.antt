-- Whole runs of calls of the events that wait.
use Rattle.std.specs.Prelude.{◌≡◌, Bool, true, false, List, [], ◌∷◌, ◌++◌, fold, Option, Some, None, if◌then◌else◌}
use Rattle.std.specs.List.{filter_map}
use Rattle.ti_jdwp.specs.declared.notice.Notice.{Notice}
use Rattle.ti_jdwp.specs.Queues.{Queue, no_events, with_event, with_loss, may_tell, first, without_first}

-- A call, with what came of it. One that gives no event changes nothing.
pub data Call : Type 0 where
  Noted : Notice → Call
  Lost : Call
  Told : Notice → Call
  Stopped Resumed Held Released : Call

-- what the contracts of the calls say
abbrev pub Step : Queue → Call → Queue → Type 0
Step old (Noted e) new = new ≡ with_event old e
Step old Lost new = new ≡ with_loss old
Step old (Told e) new = ((if may_tell old then first old.waiting else None) ≡ Some e) × (new ≡ (if may_tell old then without_first old else old))
Step old Stopped new = new ≡ record old { stopped = true }
Step old Resumed new = new ≡ record old { stopped = false }
Step old Held new = new ≡ record old { held = true }
Step old Released new = new ≡ record old { held = false }

-- these calls, in this order
abbrev pub Runs : Queue → List Call → Queue → Type 0
Runs old [] new = old ≡ new
Runs old (c ∷ calls) new = (next : Queue) × Step old c next × Runs next calls new

-- whether all threads stand by an event after one more call
abbrev pub stops : Bool → Call → Bool
stops b (Noted e) = b
stops b Lost = b
stops b (Told e) = b
stops b Stopped = true
stops b Resumed = false
stops b Held = b
stops b Released = b

-- whether the debugger holds events after one more call
abbrev pub holds : Bool → Call → Bool
holds b (Noted e) = b
holds b Lost = b
holds b (Told e) = b
holds b Stopped = b
holds b Resumed = b
holds b Held = true
holds b Released = false

abbrev pub noted_by : Call → Option Notice
noted_by (Noted e) = Some e
noted_by Lost = None
noted_by (Told e) = None
noted_by Stopped = None
noted_by Resumed = None
noted_by Held = None
noted_by Released = None

abbrev pub told_by : Call → Option Notice
told_by (Noted e) = None
told_by Lost = None
told_by (Told e) = Some e
told_by Stopped = None
told_by Resumed = None
told_by Held = None
told_by Released = None

-- Events are told in the order in which they were noted, each once. None is told between a stop of all threads and their
-- resumption, nor while the debugger holds events.
pub record AreToldWell (calls : List Call) (end : Queue) : Type 0 where
  pub order : filter_map noted_by calls ≡ filter_map told_by calls ++ end.waiting
  pub stands : (front rest : List Call) (e : Notice) → calls ≡ front ++ Told e ∷ rest → fold stops false front ≡ false
  pub takes : (front rest : List Call) (e : Notice) → calls ≡ front ++ Told e ∷ rest → fold holds false front ≡ false

abbrev pub AllToldWell : Type 0
AllToldWell = (calls : List Call) (end : Queue) → Runs no_events calls end → AreToldWell calls end
