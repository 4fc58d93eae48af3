-- An environment that waits until none of its calls is out at a thread.
use Rattle.std.specs.Prelude.{◌≡◌, ◌⊎◌, true, false, slice_get, slice_set, Some, None}
use Rattle.ti_types.specs.declared.event.Ticket.{Ticket}
use Rattle.ti_types.specs.declared.numbers.ThreadNo.{ThreadNo}
use Rattle.ti_replay.specs.Tickets.{reply_to}
use Rattle.ti_slot.specs.Tickets.{has}
use Rattle.ti_handshake.specs.Call.{GoesOn}
use Rattle.ti_handshake.specs.Desk.{DeskState, is_out}
use Rattle.ti_agent.specs.Env.{Environment, place_in}

-- The desk at a thread asked nothing. Which of its calls are cancelled may have changed. Each that is out now was out before.
-- Nothing else changed
pub record Quiesces (old new : Environment) (t : ThreadNo) : Type 0 where
  pub before : DeskState
  pub after : DeskState
  pub there : slice_get old.desks (place_in old.desks t) ≡ Some before
  pub cell : after.cell ≡ before.cell
  pub env : after.env ≡ before.env
  pub goes : GoesOn before.view after.view
  pub mine : after.view.mine ≡ before.view.mine
  pub fewer : (k : Ticket) → has k after.view.posted ≡ true → has k before.view.posted ≡ true
  pub new_is : new ≡ record { env = old.env; state = old.state; desks = slice_set old.desks (place_in old.desks t) after }

-- or nothing changed at all
abbrev pub MayQuiesce : Environment → Environment → ThreadNo → Type 0
MayQuiesce old new t = (new ≡ old) ⊎ Quiesces old new t

-- each call that is out at a desk is cancelled
abbrev pub AllCancelled : DeskState → Type 0
AllCancelled p = (k : Ticket) → is_out p k ≡ false

-- the one that was cancelled first has no answer
abbrev pub FirstWaits : DeskState → Type 0
FirstWaits p = (k : Ticket) → slice_get p.cancelled 0 ≡ Some k → reply_to p.view.subject.limits p.view.seen k ≡ None

-- the same of the desk at a thread, if there is one
abbrev pub AllCancelledAt : Environment → ThreadNo → Type 0
AllCancelledAt s t = (p : DeskState) → slice_get s.desks (place_in s.desks t) ≡ Some p → AllCancelled p

abbrev pub FirstWaitsAt : Environment → ThreadNo → Type 0
FirstWaitsAt s t = (p : DeskState) → slice_get s.desks (place_in s.desks t) ≡ Some p → FirstWaits p
