-- An environment at a thread.
use Rattle.std.specs.Prelude.{ℕ, ℤ, ◌≡◌, ◌==◌, ◌+◌, ◌-◌, ◌<◌, ◌&&◌, Bool, true, false, not, if◌then◌else◌, is_some, List, [], ◌∷◌, ◌++◌, length, Option, Some, None, slice_get}
use Rattle.atomic_table.specs.Seated.{TableId}
use Rattle.ti_types.specs.declared.answer.Answer.{Answer}
use Rattle.ti_types.specs.declared.call.Call.{Call}
use Rattle.ti_types.specs.declared.entry.Entry.{Entry}
use Rattle.ti_types.specs.declared.entry.Entry.TheVariants.{Asked}
use Rattle.ti_types.specs.declared.error.TiError.{TiError}
use Rattle.ti_types.specs.declared.event.Event.TheVariants.{Stop, Read, Go}
use Rattle.ti_types.specs.declared.event.Ticket.{Ticket}
use Rattle.ti_types.specs.declared.limits.Limits.{Limits}
use Rattle.ti_types.specs.declared.numbers.EnvNo.{EnvNo}
use Rattle.ti_types.specs.declared.view.ThreadView.{ThreadView}
use Rattle.ti_replay.specs.Events.{stopping_refusal}
use Rattle.ti_replay.specs.Replies.{reply}
use Rattle.ti_replay.specs.View.{view}
use Rattle.ti_cell.specs.declared.view.View.{View}
use Rattle.ti_cell.specs.Seats.{Sitting}
use Rattle.ti_replay.specs.Settling.{waits}
use Rattle.ti_replay.specs.Tickets.{reply_to}
use Rattle.ti_slot.specs.Tickets.{has, without_ticket}
use Rattle.ti_slot.specs.declared.asked.Asked.{Asked as AskedOf}
use Rattle.ti_slot.specs.declared.asked.Asked.TheVariants.{Answered, Waiting}
use Rattle.ti_handshake.specs.Call.{HoldsWith, IsAnswered, found, next_call, next_ticket}

-- An environment, its cell, its seat there, and its calls there that were cancelled and are still out. So many of the first of these
-- are of an environment of the same number that has left
pub record DeskState : Type 0 where
  pub cell : TableId
  pub env : EnvNo
  pub view : View
  pub cancelled : List Ticket
  pub former : ℕ

-- the same place, seen later
pub record IsSame (old new : DeskState) : Type 0 where
  pub cell : new.cell ≡ old.cell
  pub env : new.env ≡ old.env
  pub cancelled : new.cancelled ≡ old.cancelled
  pub former : new.former ≡ old.former

-- whether a call is out and was not cancelled
abbrev pub is_out : DeskState → Ticket → Bool
is_out p k = has k p.view.posted && not (has k p.cancelled)

-- if a call got a ticket, it is out and was not cancelled
abbrev pub IsTicketOut : DeskState → AskedOf → Type 0
IsTicketOut p (Answered a) = Unit {0}
IsTicketOut p (Waiting k) = is_out p k ≡ true

-- one hold looked for the answer to the call that was cancelled first, and discarded it if it was there
pub record LooksForFirst (old new : DeskState) (first : Ticket) (rest : List Ticket) (was_there : Bool) : Type 0 where
  pub cell : new.cell ≡ old.cell
  pub env : new.env ≡ old.env
  pub hold : HoldsWith old.view new.view [] (if was_there then without_ticket first old.view.posted else old.view.posted)
  pub answered_if : was_there ≡ is_some (reply_to old.view.subject.limits new.view.seen first)
  pub cancelled : new.cancelled ≡ (if was_there then rest else old.cancelled)
  pub former : new.former ≡ (if was_there then old.former - 1 else old.former)

abbrev pub DiscardsOf : List Ticket → DeskState → DeskState → Bool → Type 0
DiscardsOf [] old new was_there = (new ≡ old) × (was_there ≡ false)
DiscardsOf (first ∷ rest) old new was_there = LooksForFirst old new first rest was_there

-- what discarding does: nothing, if no call was cancelled
abbrev pub Discards : DeskState → DeskState → Bool → Type 0
Discards old new was_there = DiscardsOf old.cancelled old new was_there

-- the answer is the reply at the place of the ticket's call
abbrev pub ReplyAtPlace : Limits → List Entry → Ticket → Answer → Type 0
ReplyAtPlace limits history ticket answer =
    (front rest : List Entry) (call : Call) → history ≡ front ++ Asked ticket.env ticket.no call ∷ rest → reply limits history (length front) ≡ Some answer

-- what is told of an answer that was discarded: of the call that was cancelled first, which is out no more, and the reply to it
pub record TellsDiscarded (old new : DeskState) (ticket : Ticket) (answer : Answer) : Type 0 where
  pub first : Some ticket ≡ slice_get old.cancelled 0
  pub gone : has ticket new.view.posted ≡ false
  pub replied : reply_to old.view.subject.limits new.view.seen ticket ≡ Some answer
  pub place : ReplyAtPlace old.view.subject.limits new.view.seen ticket answer

-- the desk with this list of calls that were cancelled
abbrev pub with_cancelled : DeskState → List Ticket → ℕ → DeskState
with_cancelled p tickets former = record p { cancelled = tickets; former = former }

-- all calls that were out are cancelled, behind those that were cancelled before
pub record CancelsAll (old new : DeskState) : Type 0 where
  pub more : List Ticket
  pub behind : new.cancelled ≡ old.cancelled ++ more
  pub former : new.former ≡ old.former
  pub none_out : (k : Ticket) → is_out new k ≡ false

-- a call that was asked, and was answered
pub record IsAnsweredAt (old new : DeskState) (call : Call) (answer : Answer) : Type 0 where
  pub posted : new.view.posted ≡ old.view.posted
  pub answered : IsAnswered old.view new.view (next_call old.view old.env call) answer

-- a call that was asked is out, and had no answer when it was last looked for
pub record IsLeft (old new : DeskState) (call : Call) (ticket : Ticket) : Type 0 where
  pub late : waits call ≡ true
  pub ticket_is : ticket ≡ next_ticket old.view old.env
  pub new_one : has ticket old.view.posted ≡ false
  pub posted : new.view.posted ≡ old.view.posted ++ ticket ∷ []
  pub unanswered : reply_to old.view.subject.limits new.view.seen ticket ≡ None

-- a call that was left so is cancelled
pub record CancelsLate (old new : DeskState) (call : Call) : Type 0 where
  pub cell : new.cell ≡ old.cell
  pub env : new.env ≡ old.env
  pub left : IsLeft old new call (next_ticket old.view old.env)
  pub cancelled : new.cancelled ≡ old.cancelled ++ next_ticket old.view old.env ∷ []
  pub former : new.former ≡ old.former

-- a call with a deadline was answered in time, or cancelled
abbrev pub IsInTime : DeskState → DeskState → Call → Option Answer → Type 0
IsInTime old new call (Some answer) = IsSame old new × IsAnsweredAt old new call answer
IsInTime old new call None = CancelsLate old new call

-- the seat is the environment's, at this cell
pub record Sits (cell : TableId) (env : EnvNo) (s : Sitting) : Type 0 where
  pub here : s.cell ≡ cell
  pub number : s.view.number ≡ env.0 + 1
  pub there : env.0 < s.view.subject.limits.envs

-- the thread as a call found it
abbrev pub there_found : DeskState → DeskState → ThreadView
there_found old new = view old.view.subject.limits (found old.view new.view)

-- why a stop, a read or a go is refused, at the thread as the call found it
abbrev pub stop_refusal : DeskState → DeskState → Option TiError
stop_refusal old new = stopping_refusal (there_found old new) (Stop old.env old.view.subject.thread)

abbrev pub read_refusal : DeskState → DeskState → ℤ → Option TiError
read_refusal old new max_count = stopping_refusal (there_found old new) (Read old.env old.view.subject.thread max_count)

abbrev pub go_refusal : DeskState → DeskState → Option TiError
go_refusal old new = stopping_refusal (there_found old new) (Go old.env old.view.subject.thread)

-- whether another environment's stop is in force
abbrev pub is_anothers : EnvNo → Option EnvNo → Bool
is_anothers env (Some other) = not (other.0 == env.0)
is_anothers env None = false
