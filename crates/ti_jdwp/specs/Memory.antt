-- Where a call of `next` takes memory. Every other call of it succeeds.
use Rattle.std.specs.Prelude.{◌≡◌, Bool, true, false, [], take, None, Result, Ok, Err, is_some, ◌==◌, if◌then◌else◌}
use Rattle.ti_jdwp.specs.declared.actions.Phase.{Phase}
use Rattle.ti_jdwp.specs.declared.actions.Phase.TheVariants as phase
use Rattle.ti_jdwp.specs.declared.actions.Purpose.{Purpose}
use Rattle.ti_jdwp.specs.declared.actions.Purpose.TheVariants as purpose
use Rattle.ti_jdwp.specs.declared.error.JdwpError.{JdwpError}
use Rattle.ti_jdwp.specs.declared.front.First.{First}
use Rattle.ti_jdwp.specs.declared.front.Front.TheVariants as front
use Rattle.ti_jdwp.specs.declared.plan.Plan.{Plan}
use Rattle.ti_jdwp.specs.declared.plan.Plan.TheVariants as plan
use Rattle.ti_jdwp.specs.declared.request.Request.{Request}
use Rattle.ti_jdwp.specs.Holds.{count_of}
use Rattle.ti_jdwp.specs.Lines.{handshake}
use Rattle.ti_jdwp.specs.Plans.{plan_of}
use Rattle.ti_jdwp.specs.Queues.{may_tell, first}
use Rattle.ti_jdwp.specs.Requests.{request_in}
use Rattle.ti_jdwp.specs.Steps.{writes_first}
use Rattle.ti_jdwp.specs.Talks.{Talk, IsFront, data_of}

-- The session replies to the request at once, or lists the threads that it suspends.
abbrev pub plan_takes : Plan → Talk → Bool
plan_takes (plan.Refuse e) t = true
plan_takes (plan.Constant c) t = true
plan_takes plan.Ask t = false
plan_takes (plan.AskStack thread) t = count_of t.holds thread == 0
plan_takes (plan.Count thread) t = true
plan_takes (plan.Suspend thread) t = false
plan_takes (plan.Resume thread) t = true
plan_takes plan.SuspendAll t = false
plan_takes plan.ResumeAll t = true
plan_takes plan.Hold t = true
plan_takes plan.Release t = true
plan_takes (plan.Set w) t = true
plan_takes (plan.Clear kind number) t = true
plan_takes plan.Dispose t = true

abbrev pub read_takes : Result Request JdwpError → Talk → Bool
read_takes (Err e) t = true
read_takes (Ok r) t = plan_takes (plan_of r) t

abbrev pub request_takes : First → Talk → Bool
request_takes f t = read_takes (request_in f.set f.command (data_of f t.bytes.input)) t

-- a request stands first in the input, and serving it takes memory
abbrev pub ReadTakes : Talk → Type 0
ReadTakes t = (f : First) × IsFront t.bytes.input (front.Request f) × (request_takes f t ≡ true)

-- no event comes before the request
abbrev pub GoingOnTakes : Talk → Type 0
GoingOnTakes t = ((if may_tell t.queue then first t.queue.waiting else None) ≡ None) × ReadTakes t

-- a reply or an event is written
abbrev pub finish_takes : Purpose → Talk → Bool
finish_takes purpose.One t = true
finish_takes purpose.All t = true
finish_takes purpose.Event t = is_some t.notice
finish_takes purpose.End t = false

abbrev pub TakesIn : Phase → Talk → Type 0
TakesIn phase.Greeting t = take 14 t.bytes.input ≡ handshake
TakesIn phase.Ready t = GoingOnTakes t
TakesIn phase.Asking t = ⊥
TakesIn (phase.Listing p) t = ⊥
TakesIn (phase.Stopping p) t = ⊥
TakesIn (phase.Suspending p u) t = ⊥
TakesIn (phase.Undoing p u) t = ⊥
TakesIn (phase.Settling p) t = ⊥
TakesIn (phase.Finishing p) t = finish_takes p t ≡ true
TakesIn phase.Refusing t = Unit {0}
TakesIn (phase.Numbered n) t = Unit {0}
TakesIn (phase.Placing w) t = ⊥
TakesIn (phase.Locating w) t = ⊥
TakesIn (phase.Putting w from) t = Unit {0}
TakesIn (phase.Denied e) t = Unit {0}
TakesIn phase.Resuming t = t.work ≡ []
TakesIn phase.Ending t = ⊥
TakesIn phase.Closed t = ⊥

-- `next` writes a reply, an event or the handshake, or lists the threads that are to be resumed.
abbrev pub Takes : Talk → Type 0
Takes t = (writes_first t.phase t.bytes.output ≡ false) × TakesIn t.phase t
