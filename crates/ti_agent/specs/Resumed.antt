-- Suspensions that are taken back.
use Rattle.std.specs.Prelude.{◌≡◌, ◌⊎◌, nat_lt, Bool, true, false, List, [], length, Option, Some, None, slice_get}
use Rattle.ti_types.specs.declared.answer.Answer.{Answer}
use Rattle.ti_types.specs.declared.answer.Answer.TheVariants as answer
use Rattle.ti_types.specs.declared.call.Call.TheVariants.{Resume}
use Rattle.ti_types.specs.declared.error.TiError.{TiError}
use Rattle.ti_types.specs.declared.error.TiError.TheVariants.{Busy, ThreadNotSuspended}
use Rattle.ti_types.specs.declared.event.Ticket.{Ticket}
use Rattle.ti_types.specs.declared.numbers.ThreadNo.{ThreadNo}
use Rattle.ti_types.specs.Answer.{said}
use Rattle.ti_replay.specs.View.{view}
use Rattle.ti_slot.specs.declared.asked.Asked.TheVariants.{Answered}
use Rattle.ti_cell.specs.declared.view.View.{View}
use Rattle.ti_handshake.specs.Desk.{DeskState}
use Rattle.ti_agent.specs.Deadlines.{DiscardsEach}
use Rattle.ti_agent.specs.Env.{Environment, place_in, thread_refusal}
use Rattle.ti_agent.specs.Posts.{Posts}
use Rattle.ti_agent.specs.Quiesced.{FirstWaitsAt}

-- the calls at a desk that were cancelled and are still out. None where there is no desk
abbrev pub cancelled_of : Option DeskState → List Ticket
cancelled_of (Some p) = p.cancelled
cancelled_of None = []

abbrev pub cancelled_at : Environment → ThreadNo → List Ticket
cancelled_at s t = cancelled_of (slice_get s.desks (place_in s.desks t))

-- whether a call that the environment itself cancelled at a desk is still out
abbrev pub has_cancelled_of : Option DeskState → Bool
has_cancelled_of (Some p) = nat_lt p.former (length p.cancelled)
has_cancelled_of None = false

abbrev pub has_cancelled_at : Environment → ThreadNo → Bool
has_cancelled_at s t = has_cancelled_of (slice_get s.desks (place_in s.desks t))

-- the answer to a resumption that leaves the thread not suspended: it is resumed, or was not suspended
abbrev pub is_resumed : Answer → Bool
is_resumed answer.Done = true
is_resumed (answer.Refused ThreadNotSuspended) = true
is_resumed _ = false

-- whether the thread is suspended, as a seat knows it
abbrev pub is_suspended : View → Bool
is_suspended v = (view v.subject.limits v.seen).suspended

-- Answers were discarded at the thread, as far as they were there. Then no call that the environment had cancelled there was out. A
-- resumption was posted and answered, and the thread is not suspended after it
pub record IsResumed (old new : Environment) (thread : ThreadNo) : Type 0 where
  pub mid : Environment
  pub discards : DiscardsEach old mid thread
  pub none : has_cancelled_at mid thread ≡ false
  pub answer : Answer
  pub posts : Posts mid new thread Resume (Answered answer)
  pub resumed : is_resumed (said answer) ≡ true
  pub free : is_suspended posts.after.view ≡ false

-- Answers were discarded at the thread, as far as they were there. A call that the environment cancelled is still out, and the one that
-- was cancelled first has no answer
pub record IsYetToCome (old new : Environment) (thread : ThreadNo) : Type 0 where
  pub discards : DiscardsEach old new thread
  pub out : has_cancelled_at new thread ≡ true
  pub waits : FirstWaitsAt new thread

-- The error is that of the environment, of a cell in use, or of the thread, which answered a resumption with it. Before that
-- answers may have been discarded
pub record IsNotResumed (old new : Environment) (thread : ThreadNo) (e : TiError) : Type 0 where
  pub mid : Environment
  pub may : DiscardsEach old mid thread
  pub why : ((new ≡ mid) × ((e ≡ Busy) ⊎ (thread_refusal mid thread Resume ≡ Some e))) ⊎ ((a : Answer) × Posts mid new thread Resume (Answered a) × (said a ≡ answer.Refused e))
