-- Laws of histories by tickets.
use Rattle.std.specs.Prelude.{◌≡◌, true, List, [], ◌∷◌, ◌++◌, length, map}
use Rattle.ti_types.specs.declared.limits.Limits.{Limits}
use Rattle.ti_types.specs.declared.event.Ticket.{Ticket}
use Rattle.ti_types.specs.declared.call.Call.{Call}
use Rattle.ti_types.specs.declared.step.Step.{Step}
use Rattle.ti_types.specs.declared.entry.Entry.{Entry}
use Rattle.ti_types.specs.declared.entry.Entry.TheVariants.{Asked, Own}
use Rattle.ti_replay.specs.Answers.{is_running}
use Rattle.ti_replay.specs.View.{view}
use Rattle.ti_replay.specs.Legal.{is_legal, goes_on}
use Rattle.ti_replay.specs.HistoryState.{history_state}
use Rattle.ti_replay.specs.LateSteps.{is_passed}
use Rattle.ti_replay.specs.Replies.{reply}
use Rattle.ti_replay.specs.Tickets.{reply_to}

-- the entries of a thread's own steps
abbrev pub steps_of : List Step → List Entry
steps_of steps = map Own steps

-- two histories that leave the same state, and reply the same to each ticket
pub record AreAlike (limits : Limits) (early late : List Entry) : Type 0 where
  pub state : history_state limits early ≡ history_state limits late
  pub replies : (t : Ticket) → reply_to limits early t ≡ reply_to limits late t

-- a call, a stop or a go at a running thread may come before all steps that the thread has logged
abbrev pub StepsComeLate : Type 0
StepsComeLate =
    (limits : Limits) (front : List Entry) (steps : List Step) (x : Entry) →
    is_passed x ≡ true → is_running (view limits front).mode ≡ true →
    AreAlike limits ((front ++ steps_of steps) ++ x ∷ []) ((front ++ x ∷ []) ++ steps_of steps)

-- in a legal history the reply at the place of a call is the reply to its ticket
abbrev pub TicketIsPlace : Type 0
TicketIsPlace =
    (limits : Limits) (front rest : List Entry) (t : Ticket) (call : Call) →
    is_legal limits (front ++ Asked t.env t.no call ∷ rest) ≡ true →
    reply limits (front ++ Asked t.env t.no call ∷ rest) (length front) ≡ reply_to limits (front ++ Asked t.env t.no call ∷ rest) t

-- the steps that a thread has logged may still come after a call, a stop or a go
abbrev pub StepsStayLegal : Type 0
StepsStayLegal =
    (limits : Limits) (history : List Entry) (steps : List Step) (x : Entry) →
    is_passed x ≡ true → goes_on limits (history ++ x ∷ []) (steps_of steps) ≡ goes_on limits history (steps_of steps)
