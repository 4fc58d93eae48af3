-- What comes of a suspension.
use Rattle.std.specs.Prelude.{ℕ, ◌≡◌, ◌⊎◌, Bool, true, false, ◌&&◌, nat_lt, Option, Some, None, if◌then◌else◌}
use Rattle.ti_types.specs.declared.answer.Answer.{Answer}
use Rattle.ti_types.specs.declared.answer.Answer.TheVariants as answer
use Rattle.ti_types.specs.declared.error.TiError.{TiError}
use Rattle.ti_types.specs.declared.error.TiError.TheVariants as error
use Rattle.ti_types.specs.declared.call.Call.TheVariants as call
use Rattle.ti_types.specs.declared.event.Ticket.{Ticket}
use Rattle.ti_types.specs.declared.numbers.ThreadNo.{ThreadNo}
use Rattle.ti_slot.specs.declared.asked.Asked.TheVariants.{Answered, Waiting}
use Rattle.ti_agent.specs.Env.{Environment}
use Rattle.ti_agent.specs.Posts.{Posts, posting_refusal}
use Rattle.ti_jdwp.specs.declared.actions.Posted.{Posted}
use Rattle.ti_jdwp.specs.declared.actions.Posted.TheVariants as posted
use Rattle.ti_debugger.specs.declared.hold.Hold.{Hold}
use Rattle.ti_debugger.specs.declared.hold.Hold.TheVariants as hold

-- A suspension that took place is the agent's own. One that came after another environment's is that one's.
abbrev pub answered_by : Answer → Bool → Hold
answered_by answer.Done wanted = if wanted then hold.Own else hold.Owed
answered_by (answer.Refused error.ThreadSuspended) wanted = if wanted then hold.Another else hold.Free
answered_by _ wanted = hold.Free

-- what is left to be undone after a resumption
abbrev pub let_go : Hold → Hold
let_go hold.Free = hold.Free
let_go (hold.Out ticket until wanted) = hold.Out ticket until false
let_go hold.Own = hold.Owed
let_go hold.Another = hold.Free
let_go hold.Owed = hold.Owed

-- A suspension that was not undone yet serves again.
abbrev pub again : Hold → ℕ → Option Hold
again hold.Free until = None
again (hold.Out ticket before wanted) until = Some (hold.Out ticket until true)
again hold.Own until = Some hold.Own
again hold.Another until = None
again hold.Owed until = Some hold.Own

abbrev pub is_awaited : Hold → ℕ → Bool
is_awaited hold.Free now = false
is_awaited (hold.Out ticket until wanted) now = wanted && nat_lt now until
is_awaited hold.Own now = false
is_awaited hold.Another now = false
is_awaited hold.Owed now = false

-- an answer is to be collected, or a suspension to be undone
abbrev pub is_open : Hold → Bool
is_open hold.Free = false
is_open (hold.Out ticket until wanted) = true
is_open hold.Own = false
is_open hold.Another = false
is_open hold.Owed = true

-- no suspension of the agent's stays here
abbrev pub is_let_go : Hold → Bool
is_let_go hold.Free = true
is_let_go (hold.Out ticket until true) = false
is_let_go (hold.Out ticket until false) = true
is_let_go hold.Own = false
is_let_go hold.Another = false
is_let_go hold.Owed = true

-- the debugger suspends the thread by the agent
abbrev pub is_wanted : Hold → Bool
is_wanted hold.Free = false
is_wanted (hold.Out ticket until wanted) = wanted
is_wanted hold.Own = true
is_wanted hold.Another = false
is_wanted hold.Owed = false

-- what a session is told of a suspension is what it became
abbrev pub IsPostedAs : Option Posted → Hold → Hold → Type 0
IsPostedAs (Some posted.Suspended) old new = is_wanted new ≡ true
IsPostedAs (Some posted.ByAnother) old new = new ≡ hold.Another
IsPostedAs _ old new = new ≡ old

-- the service did not suspend the thread: it answered so, or refused the call
abbrev pub is_done : Answer → Bool
is_done answer.Done = true
is_done _ = false

abbrev pub RefusesThread : Environment → Environment → ThreadNo → Type 0
RefusesThread old new thread =
    ((a : Answer) × Posts old new thread call.Suspend (Answered a) × (is_done a ≡ false))
    ⊎ ((e : TiError) × (posting_refusal old thread call.Suspend ≡ Some e) × (new ≡ old))

-- and it is what the service answered: it took place, or will; or another environment had suspended the thread
abbrev pub PostsAs : Option Posted → Environment → Environment → ThreadNo → Type 0
PostsAs (Some posted.Suspended) old new thread = Posts old new thread call.Suspend (Answered answer.Done) ⊎ ((ticket : Ticket) × Posts old new thread call.Suspend (Waiting ticket))
PostsAs (Some posted.ByAnother) old new thread = Posts old new thread call.Suspend (Answered (answer.Refused error.ThreadSuspended))
PostsAs (Some posted.NotAlive) old new thread = RefusesThread old new thread
PostsAs (Some posted.Unknown) old new thread = (posting_refusal old thread call.Suspend ≡ Some error.InvalidThread) × (new ≡ old)
PostsAs None old new thread = new ≡ old
