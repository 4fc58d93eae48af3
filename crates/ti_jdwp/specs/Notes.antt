-- What becomes of an event that takes place while a debugger is there.
use Rattle.std.specs.Prelude.{◌≡◌, ℕ, ◌+◌, ◌%◌, ◌^◌, Bool, true, false, List, [], ◌∷◌, map, filter, ◌⊎◌}
use Rattle.std.specs.Borrow.{Bor}
use Rattle.std.specs.Int.{w32, cast_signed}
use Rattle.ti_jdwp.specs.declared.actions.Phase.{Phase}
use Rattle.ti_jdwp.specs.declared.actions.Phase.TheVariants as phase
use Rattle.ti_jdwp.specs.declared.actions.Purpose.{Purpose}
use Rattle.ti_jdwp.specs.declared.actions.Purpose.TheVariants as purpose
use Rattle.ti_jdwp.specs.declared.event.Event.{Event}
use Rattle.ti_jdwp.specs.declared.event.Event.TheVariants as event
use Rattle.ti_jdwp.specs.declared.event_text.EventRow.{EventRow}
use Rattle.ti_jdwp.specs.declared.event_text.Occurrence.{Occurrence}
use Rattle.ti_jdwp.specs.declared.event_text.Occurrence.TheVariants as occurrence
use Rattle.ti_jdwp.specs.declared.notice.Notice.{Notice}
use Rattle.ti_jdwp.specs.declared.request.Policy.{Policy}
use Rattle.ti_jdwp.specs.declared.request.Policy.TheVariants as policy
use Rattle.ti_jdwp.specs.Composites.{composite}
use Rattle.ti_jdwp.specs.Filters.{event_thread}
use Rattle.ti_jdwp.specs.InForce.{Asked, is_told, all_after, strongest}
use Rattle.ti_jdwp.specs.Lines.{with_output}
use Rattle.ti_jdwp.specs.Queues.{Queue, with_event, with_loss}
use Rattle.ti_jdwp.specs.Sent.{event_packet}
use Rattle.ti_jdwp.specs.Talks.{Talk, closing}

abbrev pub starts : ℕ → Occurrence
starts thread = occurrence.ThreadStart thread

abbrev pub ends : ℕ → Occurrence
ends thread = occurrence.ThreadDeath thread

abbrev pub prepares : ℕ → ℕ → Bor (List ℕ) → Occurrence
prepares thread class signature = occurrence.ClassPrepare thread class signature

-- the session ends, so that nobody is told of an event
abbrev pub is_over : Phase → Bool
is_over phase.Greeting = false
is_over phase.Ready = false
is_over phase.Asking = false
is_over (phase.Listing p) = false
is_over (phase.Stopping p) = false
is_over (phase.Suspending p t) = false
is_over (phase.Undoing p t) = false
is_over (phase.Settling p) = false
is_over (phase.Finishing p) = false
is_over phase.Refusing = false
is_over (phase.Placing w) = false
is_over (phase.Locating w) = false
is_over (phase.Putting w k) = false
is_over (phase.Denied d) = false
is_over (phase.Numbered n) = false
is_over phase.Resuming = false
is_over phase.Ending = true
is_over phase.Closed = true

-- the begin and the end of a thread suspend none, and so does the end of the runtime
abbrev pub event_policy : Event → Policy → Policy
event_policy (event.SingleStep s) asked = asked
event_policy (event.Breakpoint s) asked = asked
event_policy (event.ThreadStart thread) asked = policy.None
event_policy (event.ThreadDeath thread) asked = policy.None
event_policy (event.ClassPrepare thread class signature) asked = asked
event_policy event.VmDeath asked = policy.None

abbrev pub row_of : Occurrence → ℕ → EventRow
row_of o n = record { request = cast_signed w32 n; occurrence = o }

-- one packet for all requests that the event meets, with the strongest of their policies
abbrev pub notice_for : Event → Occurrence → Policy → List ℕ → Notice
notice_for e o asked numbers = record {
  policy = event_policy e asked;
  thread = event_thread e;
  stop = false;
  body = composite (event_policy e asked) (map (row_of o) numbers);
}

abbrev pub queue_with : Event → Occurrence → List Asked → Queue → Queue
queue_with e o [] q = q
queue_with e o (r ∷ rs) q = with_event q (notice_for e o (strongest (r ∷ rs)) (map (λ a. a.number) (r ∷ rs)))

-- An event waits, if it meets a request. It counts for the requests that it comes as far as the counts of.
abbrev pub noted : Event → Occurrence → Talk → Talk
noted e o t = record t { requests = all_after e t.requests; queue = queue_with e o (filter (is_told e) t.requests.list) t.queue }

-- an event is not told, and counted for the requests or not
abbrev pub IsUntold : Event → Talk → Talk → Type 0
IsUntold e old new = (new ≡ old) ⊎ (new ≡ record old { requests = all_after e old.requests })

-- an event is lost, before it counted for the requests or after that
abbrev pub IsLost : Event → Talk → Talk → Type 0
IsLost e old new =
    (new ≡ record old { queue = with_loss old.queue }) ⊎ (new ≡ record old { requests = all_after e old.requests; queue = with_loss old.queue })

abbrev pub NotesBy : Bool → Event → Occurrence → Talk → Talk → Type 0
NotesBy true e o old new = new ≡ noted e o old
NotesBy false e o old new = IsLost e old new

abbrev pub NotesIn : Bool → Event → Occurrence → Talk → Bool → Talk → Type 0
NotesIn true e o old result new = (result ≡ true) × (new ≡ old)
NotesIn false e o old result new = NotesBy result e o old new

abbrev pub Notes : Event → Occurrence → Talk → Bool → Talk → Type 0
Notes e o old result new = NotesIn (is_over old.phase) e o old result new

-- the event of the request 0 that the runtime began with this thread, which suspends all
abbrev pub start_notice : ℕ → Notice
start_notice t = record {
  policy = policy.All;
  thread = t;
  stop = false;
  body = composite policy.All (map (row_of (occurrence.VmStart t)) (0 ∷ []));
}

abbrev pub BeginsBy : Bool → ℕ → Talk → Talk → Type 0
BeginsBy true thread old new = new ≡ record old { queue = with_event old.queue (start_notice thread) }
BeginsBy false thread old new = new ≡ record old { queue = with_loss old.queue }

abbrev pub BeginsIn : Bool → ℕ → Talk → Bool → Talk → Type 0
BeginsIn true thread old result new = (result ≡ true) × (new ≡ old)
BeginsIn false thread old result new = BeginsBy result thread old new

-- The runtime began: the event waits, or it is lost.
abbrev pub Begins : ℕ → Talk → Bool → Talk → Type 0
Begins thread old result new = BeginsIn (is_over old.phase) thread old result new

-- what is told of the end of the runtime: for the request 0, and for those with these numbers
abbrev pub end_body : List ℕ → List ℕ
end_body numbers = composite policy.None (map (row_of occurrence.VmDeath) (0 ∷ numbers))

-- the requests that are for it
abbrev pub end_numbers : List Asked → List ℕ
end_numbers rs = map (λ r. r.number) (filter (is_told event.VmDeath) rs)

-- it is told before all that waits
abbrev pub tells_end : Talk → Talk
tells_end t = record t {
  bytes = with_output t.bytes (event_packet t.told (end_body (end_numbers t.requests.list)));
  requests = all_after event.VmDeath t.requests;
  told = (t.told + 1) % 2 ^ 32;
}

abbrev pub TellsEnd : Bool → Talk → Talk → Type 0
TellsEnd true old new = new ≡ tells_end old
TellsEnd false old new = IsLost event.VmDeath old new

-- threads are suspended for something else than the end of the session
abbrev pub lasts : Purpose → Bool
lasts purpose.One = true
lasts purpose.All = true
lasts purpose.Event = true
lasts purpose.End = false

-- the handshake has come, and the session does not end
abbrev pub hears_end : Phase → Bool
hears_end phase.Greeting = false
hears_end phase.Ready = true
hears_end phase.Asking = true
hears_end (phase.Listing p) = true
hears_end (phase.Stopping p) = true
hears_end (phase.Suspending p t) = lasts p
hears_end (phase.Undoing p t) = lasts p
hears_end (phase.Settling p) = true
hears_end (phase.Finishing p) = true
hears_end phase.Refusing = true
hears_end (phase.Placing w) = true
hears_end (phase.Locating w) = true
hears_end (phase.Putting w k) = true
hears_end (phase.Denied d) = true
hears_end (phase.Numbered n) = true
hears_end phase.Resuming = true
hears_end phase.Ending = false
hears_end phase.Closed = false

-- nothing more is read, answered or told
abbrev pub winds_up : Talk → Talk
winds_up t = record t { phase = closing t.phase; ended = true }

abbrev pub DiesIn : Bool → Talk → Bool → Talk → Type 0
DiesIn true old result new = TellsEnd result (winds_up old) new
DiesIn false old result new = (result ≡ true) × (new ≡ winds_up old)

-- The runtime ends: the debugger is told, if it can hear, or the event is lost. The session ends in any case.
abbrev pub Dies : Talk → Bool → Talk → Type 0
Dies old result new = DiesIn (hears_end old.phase) old result new
