-- Calls that are posted at a thread, and collected later.
use Rattle.std.specs.Prelude.{◌≡◌, ◌&&◌, false, true, if◌then◌else◌, is_some, [], ◌∷◌, ◌++◌, Option, Some, None, IfSome, slice_get, slice_set}
use Rattle.ti_types.specs.declared.answer.Answer.{Answer}
use Rattle.ti_types.specs.declared.call.Call.{Call}
use Rattle.ti_types.specs.declared.event.Ticket.{Ticket}
use Rattle.ti_types.specs.declared.numbers.ThreadNo.{ThreadNo}
use Rattle.ti_types.specs.Refusing.{or_else}
use Rattle.ti_types.specs.declared.error.TiError.{TiError}
use Rattle.ti_types.specs.declared.error.TiError.TheVariants.{Full}
use Rattle.ti_env.specs.Env.{with_spent}
use Rattle.ti_replay.specs.Settling.{waits}
use Rattle.ti_replay.specs.Tickets.{reply_to}
use Rattle.ti_slot.specs.declared.asked.Asked.{Asked as AskedOf}
use Rattle.ti_slot.specs.declared.asked.Asked.TheVariants.{Answered, Waiting}
use Rattle.ti_slot.specs.Tickets.{has, without_ticket}
use Rattle.ti_handshake.specs.Call.{HoldsWith, WaitsWith, IsTold, next_call, ticket_told}
use Rattle.ti_handshake.specs.Desk.{DeskState, IsSame, IsTicketOut, ReplyAtPlace, is_out}
use Rattle.ti_agent.specs.Env.{Environment, place_in, place_of, thread_refusal, is_full}

-- why a call is not posted at a thread: the environment refuses it, or it may wait and the window there is full
abbrev pub posting_refusal : Environment → ThreadNo → Call → Option TiError
posting_refusal s t c = or_else (thread_refusal s t c) (if waits c && is_full s t then Some Full else None)

-- one call is spent at the thread, and its desk posted the call by one hold. Nothing else changed
pub record Posts (old new : Environment) (thread : ThreadNo) (c : Call) (r : AskedOf) : Type 0 where
  pub before : DeskState
  pub after : DeskState
  pub there : slice_get old.desks (place_in old.desks thread) ≡ Some before
  pub about : before.view.subject.thread ≡ thread
  pub same : IsSame before after
  pub hold : HoldsWith before.view after.view (next_call before.view before.env c ∷ []) (before.view.posted ++ ticket_told r)
  pub told : IsTold before.view after.view before.env c r
  pub out : IsTicketOut after r
  pub new_is : new ≡ record { env = old.env; state = with_spent old.state (place_of old.desks thread); desks = slice_set old.desks (place_in old.desks thread) after }

-- The desk at the ticket's thread collected the call. The answer is the reply to the ticket, at the place of its call. The
-- ticket is no longer out, and nothing else changed
pub record Collects (old new : Environment) (ticket : Ticket) (a : Answer) : Type 0 where
  pub before : DeskState
  pub after : DeskState
  pub there : slice_get old.desks (place_in old.desks ticket.thread) ≡ Some before
  pub about : before.view.subject.thread ≡ ticket.thread
  pub same : IsSame before after
  pub hold : WaitsWith before.view after.view [] (without_ticket ticket before.view.posted)
  pub once : has ticket after.view.posted ≡ false
  pub answer : reply_to before.view.subject.limits after.view.seen ticket ≡ Some a
  pub place : ReplyAtPlace before.view.subject.limits after.view.seen ticket a
  pub new_is : new ≡ record { env = old.env; state = old.state; desks = slice_set old.desks (place_in old.desks ticket.thread) after }

-- The desk at the ticket's thread looked for the answer by one hold. If the ticket was out there and the answer is there,
-- the call was collected. Nothing else changed
pub record LooksFor (old new : Environment) (ticket : Ticket) (r : Option Answer) : Type 0 where
  pub before : DeskState
  pub after : DeskState
  pub there : slice_get old.desks (place_in old.desks ticket.thread) ≡ Some before
  pub about : before.view.subject.thread ≡ ticket.thread
  pub same : IsSame before after
  pub hold : HoldsWith before.view after.view [] (if is_some r then without_ticket ticket before.view.posted else before.view.posted)
  pub once : IfSome r (λ a. has ticket after.view.posted ≡ false)
  pub answer : r ≡ (if is_out before ticket then reply_to before.view.subject.limits after.view.seen ticket else None)
  pub place : IfSome r (λ a. ReplyAtPlace before.view.subject.limits after.view.seen ticket a)
  pub new_is : new ≡ record { env = old.env; state = old.state; desks = slice_set old.desks (place_in old.desks ticket.thread) after }

-- The desk at the ticket's thread looked for the answer, by holds and looks between them. If the ticket was out there and
-- the answer came, the call was collected. Nothing else changed
pub record WaitsFor (old new : Environment) (ticket : Ticket) (r : Option Answer) : Type 0 where
  pub before : DeskState
  pub after : DeskState
  pub there : slice_get old.desks (place_in old.desks ticket.thread) ≡ Some before
  pub about : before.view.subject.thread ≡ ticket.thread
  pub same : IsSame before after
  pub hold : WaitsWith before.view after.view [] (if is_some r then without_ticket ticket before.view.posted else before.view.posted)
  pub once : IfSome r (λ a. has ticket after.view.posted ≡ false)
  pub answer : r ≡ (if is_out before ticket then reply_to before.view.subject.limits after.view.seen ticket else None)
  pub place : IfSome r (λ a. ReplyAtPlace before.view.subject.limits after.view.seen ticket a)
  pub new_is : new ≡ record { env = old.env; state = old.state; desks = slice_set old.desks (place_in old.desks ticket.thread) after }

-- the ticket is out at the desk of its thread, and was not cancelled
pub record IsOut (s : Environment) (k : Ticket) : Type 0 where
  pub desk : DeskState
  pub there : slice_get s.desks (place_in s.desks k.thread) ≡ Some desk
  pub out : is_out desk k ≡ true

-- if a call waits, its ticket is out
abbrev pub IsOutIfWaiting : Environment → AskedOf → Type 0
IsOutIfWaiting s (Answered a) = Unit {0}
IsOutIfWaiting s (Waiting k) = IsOut s k
