-- What a session does next.
use Rattle.std.specs.Prelude.{◌≡◌, ℕ, ◌+◌, ◌%◌, ◌^◌, ◌<◌, ◌≤◌, Bool, true, false, List, [], ◌∷◌, ◌++◌, length, ◌⊎◌, not, ◌&&◌, Option, Some, None, Result, Ok, Err, ℤ, ◌==◌, if◌then◌else◌}
use Rattle.std.specs.Int.{w32, cast_unsigned}
use Rattle.ti_jdwp.specs.declared.actions.Action.{Action}
use Rattle.ti_jdwp.specs.declared.actions.Action.TheVariants as action
use Rattle.ti_jdwp.specs.declared.actions.Phase.{Phase}
use Rattle.ti_jdwp.specs.declared.actions.Phase.TheVariants as phase
use Rattle.ti_jdwp.specs.declared.actions.Purpose.{Purpose}
use Rattle.ti_jdwp.specs.declared.actions.Purpose.TheVariants as purpose
use Rattle.ti_jdwp.specs.declared.error.JdwpError.{JdwpError}
use Rattle.ti_jdwp.specs.declared.error.JdwpError.TheVariants as error
use Rattle.ti_jdwp.specs.declared.front.Front.{Front}
use Rattle.ti_jdwp.specs.declared.front.Front.TheVariants as front
use Rattle.ti_jdwp.specs.declared.notice.Notice.{Notice}
use Rattle.ti_jdwp.specs.declared.plan.Plan.{Plan}
use Rattle.ti_jdwp.specs.declared.plan.Wish.{Wish}
use Rattle.ti_jdwp.specs.declared.plan.Plan.TheVariants as plan
use Rattle.ti_jdwp.specs.declared.request.Policy.{Policy}
use Rattle.ti_jdwp.specs.declared.request.Policy.TheVariants as policy
use Rattle.ti_jdwp.specs.declared.request.Request.{Request}
use Rattle.ti_jdwp.specs.declared.suspensions.Holder.TheVariants as holder
use Rattle.ti_jdwp.specs.declared.stops.Standing.{Standing}
use Rattle.ti_jdwp.specs.declared.stops.Target.{Target}
use Rattle.ti_jdwp.specs.declared.stops.Target.TheVariants as target
use Rattle.ti_jdwp.specs.Asking.{Reading, filters_in}
use Rattle.ti_jdwp.specs.Constants.{constant_bytes}
use Rattle.ti_jdwp.specs.Errors.{number_of}
use Rattle.ti_jdwp.specs.Fields.{int}
use Rattle.ti_jdwp.specs.Holds.{count_of, held_of, held_threads, Suspends, Resumes, LetsGo, AreAllFree}
use Rattle.ti_jdwp.specs.InForce.{with_request, without_request}
use Rattle.ti_jdwp.specs.Lines.{without_input, with_output}
use Rattle.ti_jdwp.specs.Plans.{plan_of}
use Rattle.ti_jdwp.specs.Queues.{may_tell, first, without_first}
use Rattle.ti_jdwp.specs.Requests.{request_in}
use Rattle.ti_jdwp.specs.Sent.{event_packet}
use Rattle.ti_jdwp.specs.Stops.{nowhere}
use Rattle.ti_jdwp.specs.Talks.{Talk, IsFront, data_of, replied, stopped, starved, greets, after}

-- a call of `next` does this
abbrev pub Does : Action × Talk → Action → Talk → Type 0
Does told act new = (act ≡ told.0) × (new ≡ told.1)

-- there is output that the socket can take
abbrev pub is_unsent : Talk → Bool
is_unsent t = not t.gone && not (length t.bytes.output == 0)

-- The session ends: what the debugger suspended is let go, one thread after the other, and then the connection closes.
abbrev pub EndsBy : Action → Talk → Talk → Type 0
EndsBy (action.Resume t) old new = LetsGo old.holds t true new.holds × (new ≡ record old { holds = new.holds })
EndsBy action.Again old new = ((t : ℕ) × LetsGo old.holds t false new.holds) × (new ≡ record old { holds = new.holds })
EndsBy action.Write old new = AreAllFree old.holds × (is_unsent old ≡ true) × (new ≡ old)
EndsBy action.Close old new = AreAllFree old.holds × (is_unsent old ≡ false) × (new ≡ record old { phase = phase.Closed })
EndsBy _ old new = ⊥

-- A thread is suspended once more. The service is asked at a count of 0 alone. The greatest count stays.
abbrev pub SuspendsBy : Purpose → ℕ → Talk → Action → Talk → Type 0
SuspendsBy p t old (action.Suspend u) new = (u ≡ t) × (count_of old.holds t ≡ 0) × (new ≡ record old { phase = phase.Suspending p t })
SuspendsBy p t old action.Again new =
    (new ≡ record old { phase = phase.Stopping p; holds = new.holds; short = new.short })
    × (0 < count_of old.holds t)
    × ((Suspends old.holds t holder.Debugger new.holds × (new.short ≡ old.short)) ⊎ ((new.holds ≡ old.holds) × (new.short ≡ true) × (2147483647 ≤ count_of old.holds t)))
SuspendsBy p t old _ new = ⊥

-- The next thread of the list is suspended. After all of them the suspensions are to stand.
abbrev pub SuspendsNext : Purpose → Talk → Action → Talk → Type 0
SuspendsNext p old action.Settle new = (old.work ≡ []) × (new ≡ record old { phase = phase.Settling p })
SuspendsNext p old act new = (t : ℕ) × (old.work ≡ new.work ++ t ∷ []) × SuspendsBy p t (record old { work = new.work }) act new

abbrev pub all_resumed : Talk → Talk
all_resumed t = record t { queue = record t.queue { stopped = false } }

-- The next thread of the list is resumed. After all of them the reply is written.
abbrev pub ResumesNext : Talk → Action → Talk → Type 0
ResumesNext old (action.Resume t) new = (old.work ≡ new.work ++ t ∷ []) × Resumes old.holds t true new.holds × (new ≡ record old { work = new.work; holds = new.holds })
ResumesNext old action.Again new = ((t : ℕ) × (old.work ≡ new.work ++ t ∷ []) × Resumes old.holds t false new.holds) × (new ≡ record old { work = new.work; holds = new.holds })
ResumesNext old action.Write new = (old.work ≡ []) × (new ≡ all_resumed (replied old (Ok [])))
ResumesNext old _ new = ⊥

abbrev pub is_all : Policy → Bool
is_all policy.None = false
is_all policy.EventThread = false
is_all policy.All = true

-- An event is told. After one that stopped all threads no other is.
abbrev pub tells : Option Notice → Talk → Talk
tells None t = record t { notice = None; told = (t.told + 1) % 2 ^ 32; short = false; phase = phase.Ready }
tells (Some n) t = record t {
  bytes = with_output t.bytes (event_packet t.told n.body);
  queue = if is_all n.policy then record t.queue { stopped = true } else t.queue;
  notice = None;
  told = (t.told + 1) % 2 ^ 32;
  short = false;
  phase = phase.Ready;
}

-- A thread that stopped is let go as soon as its event is told. Any other event is written.
abbrev pub told_by : Option Notice → Action
told_by None = action.Write
told_by (Some n) = if n.stop then action.LetGo n.thread else action.Write

abbrev pub suspended_reply : Talk → Talk
suspended_reply t = record (replied t (if t.short then Err 110 else Ok [])) { short = false }

abbrev pub finishes : Purpose → Talk → Action × Talk
finishes purpose.One t = (action.Write, suspended_reply t)
finishes purpose.All t = (action.Write, suspended_reply t)
finishes purpose.Event t = (told_by t.notice, tells t.notice t)
finishes purpose.End t = (action.Again, record t { phase = phase.Ending })

-- what an event is to suspend is suspended
abbrev pub BeginsEvent : Policy → ℕ → Talk → Action → Talk → Type 0
BeginsEvent policy.None thread old act new = Does (action.Again, record old { phase = phase.Finishing purpose.Event }) act new
BeginsEvent policy.EventThread thread old act new = SuspendsBy purpose.Event thread old act new
BeginsEvent policy.All thread old act new = Does (action.ListThreads, record old { phase = phase.Listing purpose.Event }) act new

-- A thread is resumed once. Where no thread is suspended any more, events go out again.
abbrev pub ResumesOne : ℕ → Talk → Action → Talk → Type 0
ResumesOne t old act new =
    (told : Bool) × Resumes old.holds t told new.holds × (act ≡ (if told then action.Resume t else action.Write))
    × (new ≡ record (replied old (Ok [])) { holds = new.holds; queue = if held_of new.holds == 0 then record old.queue { stopped = false } else old.queue })

-- what the modifiers say of the request that is worked on, if its thread stands there
abbrev pub said_in : Wish → Standing → Talk → Result Reading JdwpError
said_in w from t = filters_in w from (data_of t.first t.bytes.input)

-- A request for events is put in force with what its modifiers say. Where there is no room or no memory, it is refused.
abbrev pub Puts : Wish → Reading → Talk → Action → Talk → Type 0
Puts w r old action.Again new =
    new ≡ record old { phase = phase.Numbered (old.requests.given + 1); requests = with_request old.requests w.kind w.policy r.target r.front r.count r.rest }
Puts w r old action.Write new = new ≡ replied old (Err 110)
Puts w r old _ new = ⊥

abbrev pub refused : JdwpError → Talk → Action × Talk
refused e t = (action.Write, replied t (Err (number_of e)))

abbrev pub PutsRead : Result Reading JdwpError → Wish → Talk → Action → Talk → Type 0
PutsRead (Err e) w old act new = Does (refused e old) act new
PutsRead (Ok r) w old act new = Puts w r old act new

-- A request of which the driver said what it was asked is put in force. Where there is no memory to read it, it is refused.
abbrev pub PutsInForce : Wish → Standing → Talk → Action → Talk → Type 0
PutsInForce w from old act new = PutsRead (said_in w from old) w old act new ⊎ Does (refused error.OutOfMemory old) act new

-- The driver sets the breakpoint of a request first, or says where the thread stands that is to step, if the debugger suspends it.
abbrev pub SetsFor : Target → Wish → Reading → Talk → Action → Talk → Type 0
SetsFor target.Anywhere w r old act new = Puts w r old act new
SetsFor (target.Place class method index) w r old act new = Does (action.SetBreakpoint class method index, record old { phase = phase.Placing w }) act new
SetsFor (target.Step step) w r old act new =
    Does (if count_of old.holds step.thread == 0 then refused error.ThreadNotSuspended old else (action.Locate step.thread, record old { phase = phase.Locating w })) act new

abbrev pub Sets : Wish → Reading → Talk → Action → Talk → Type 0
Sets w r old act new = SetsFor r.target w r old act new

abbrev pub SetsRead : Result Reading JdwpError → Wish → Talk → Action → Talk → Type 0
SetsRead (Err e) w old act new = Does (refused e old) act new
SetsRead (Ok r) w old act new = Sets w r old act new

-- A request for events is served. Where there is no memory to read it, it is refused.
abbrev pub SetsEvent : Wish → Talk → Action → Talk → Type 0
SetsEvent w old act new = SetsRead (said_in w nowhere old) w old act new ⊎ Does (refused error.OutOfMemory old) act new

abbrev pub clears : ℕ → ℤ → Talk → Talk
clears kind number t = record (replied t (Ok [])) { requests = without_request t.requests kind (cast_unsigned w32 number) }

abbrev pub asks : Talk → Talk
asks t = record t { phase = phase.Asking }

-- what is done with a request, by its plan
abbrev pub ServesBy : Plan → Request → Talk → Action → Talk → Type 0
ServesBy (plan.Refuse e) r t act new = Does (action.Write, replied t (Err (number_of e))) act new
ServesBy (plan.Constant c) r t act new = Does (action.Write, replied t (Ok (constant_bytes c))) act new
ServesBy plan.Ask r t act new = Does (action.Ask r, asks t) act new
ServesBy (plan.AskStack thread) r t act new = Does (if count_of t.holds thread == 0 then (action.Write, replied t (Err 13)) else (action.Ask r, asks t)) act new
ServesBy (plan.Count thread) r t act new = Does (action.Write, replied t (Ok (int (count_of t.holds thread)))) act new
ServesBy (plan.Suspend thread) r t act new = SuspendsBy purpose.One thread t act new
ServesBy (plan.Resume thread) r t act new = ResumesOne thread t act new
ServesBy plan.SuspendAll r t act new = Does (action.ListThreads, record t { phase = phase.Listing purpose.All }) act new
ServesBy plan.ResumeAll r t act new = Does (action.Again, record t { phase = phase.Resuming; work = held_threads t.holds }) act new
ServesBy plan.Hold r t act new = Does (action.Write, record (replied t (Ok [])) { queue = record t.queue { held = true } }) act new
ServesBy plan.Release r t act new = Does (action.Write, record (replied t (Ok [])) { queue = record t.queue { held = false } }) act new
ServesBy (plan.Set w) r t act new = SetsEvent w t act new
ServesBy (plan.Clear kind number) r t act new = Does (action.Write, clears kind number t) act new
ServesBy plan.Dispose r t act new = Does (action.Again, stopped (replied t (Ok []))) act new

abbrev pub ServesRead : Result Request JdwpError → Talk → Action → Talk → Type 0
ServesRead (Err e) t act new = Does (action.Write, replied t (Err (number_of e))) act new
ServesRead (Ok r) t act new = ServesBy (plan_of r) r t act new

-- what is done with the request that stands first in the input
abbrev pub Serves : Talk → Action → Talk → Type 0
Serves t act new = ServesRead (request_in t.first.set t.first.command (data_of t.first t.bytes.input)) t act new

abbrev pub ReadsBy : Front → Talk → Action → Talk → Type 0
ReadsBy front.More old act new = Does (starved old) act new
ReadsBy front.Broken old act new = Does (action.Again, stopped old) act new
ReadsBy (front.Reply n) old act new = Does (action.Again, record old { bytes = without_input old.bytes n }) act new
ReadsBy (front.Request f) old act new = Serves (record old { first = f }) act new

abbrev pub Reads : Talk → Action → Talk → Type 0
Reads old act new = (f : Front) × IsFront old.bytes.input f × ReadsBy f old act new

abbrev pub GoesOnWith : Option Notice → Talk → Action → Talk → Type 0
GoesOnWith None old act new = Reads old act new
GoesOnWith (Some n) old act new = BeginsEvent n.policy n.thread (record old { queue = without_first old.queue; notice = Some n }) act new

-- an event that may go out comes before a packet
abbrev pub GoesOn : Talk → Action → Talk → Type 0
GoesOn old act new = GoesOnWith (if may_tell old.queue then first old.queue.waiting else None) old act new

abbrev pub Waits : Talk → Action → Talk → Type 0
Waits old act new = Does (action.Wait, old) act new

abbrev pub GoesIn : Phase → Talk → Action → Talk → Type 0
GoesIn phase.Greeting old act new = Does (greets old) act new
GoesIn phase.Ready old act new = GoesOn old act new
GoesIn phase.Asking old act new = Waits old act new
GoesIn (phase.Listing p) old act new = Waits old act new
GoesIn (phase.Stopping p) old act new = SuspendsNext p old act new
GoesIn (phase.Suspending p t) old act new = Waits old act new
GoesIn (phase.Undoing p t) old act new = Does (action.Resume t, record old { phase = after p }) act new
GoesIn (phase.Settling p) old act new = Waits old act new
GoesIn (phase.Finishing p) old act new = Does (finishes p old) act new
GoesIn phase.Refusing old act new = Does (action.Write, replied old (Err 10)) act new
GoesIn (phase.Numbered n) old act new = Does (action.Write, replied old (Ok (int n))) act new
GoesIn (phase.Placing w) old act new = Waits old act new
GoesIn (phase.Locating w) old act new = Waits old act new
GoesIn (phase.Putting w from) old act new = PutsInForce w from old act new
GoesIn (phase.Denied e) old act new = Does (action.Write, replied old (Err (number_of e))) act new
GoesIn phase.Resuming old act new = ResumesNext old act new
GoesIn phase.Ending old act new = EndsBy act old new
GoesIn phase.Closed old act new = Does (action.Close, old) act new

-- What is to be written goes first, but what is suspended does not wait for it where the session ends.
abbrev pub writes_first : Phase → List ℕ → Bool
writes_first phase.Ending output = false
writes_first _ [] = false
writes_first _ (b ∷ bytes) = true

abbrev pub GoesFirst : Bool → Talk → Action → Talk → Type 0
GoesFirst true old act new = Does (action.Write, old) act new
GoesFirst false old act new = GoesIn old.phase old act new

abbrev pub Goes : Talk → Action → Talk → Type 0
Goes old act new = GoesFirst (writes_first old.phase old.bytes.output) old act new

abbrev pub is_ready : Phase → Bool
is_ready phase.Greeting = false
is_ready phase.Ready = true
is_ready phase.Asking = false
is_ready (phase.Listing p) = false
is_ready (phase.Stopping p) = false
is_ready (phase.Suspending p t) = false
is_ready (phase.Undoing p t) = false
is_ready (phase.Settling p) = false
is_ready (phase.Finishing p) = false
is_ready phase.Refusing = false
is_ready (phase.Placing w) = false
is_ready (phase.Locating w) = false
is_ready (phase.Putting w k) = false
is_ready (phase.Denied d) = false
is_ready (phase.Numbered n) = false
is_ready phase.Resuming = false
is_ready phase.Ending = false
is_ready phase.Closed = false

-- A call of `next` that fails changes nothing, but for what is known of the request that would be worked on.
abbrev pub Fails : Talk → Talk → Type 0
Fails old new = (new ≡ record old { first = new.first }) × (is_ready old.phase ≡ false → new ≡ old)
