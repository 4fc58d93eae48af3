-- One thread of a core, and how each event changes it.
use Rattle.std.specs.Prelude.{Bool, true, false, not, if◌then◌else◌, List, [], ◌∷◌, ◌++◌, length, Option, Some, None, Result, Ok, Err, ℤ}
use Rattle.ti_types.specs.declared.limits.Limits.{Limits}
use Rattle.ti_types.specs.declared.numbers.EnvNo.{EnvNo}
use Rattle.ti_types.specs.declared.numbers.ThreadNo.{ThreadNo}
use Rattle.ti_types.specs.declared.state.Safe.TheVariants.{AtPoll, Native, Blocked}
use Rattle.ti_types.specs.declared.step.Step.{Step}
use Rattle.ti_types.specs.declared.call.Call.{Call}
use Rattle.ti_types.specs.declared.entry.Entry.{Entry}
use Rattle.ti_types.specs.declared.entry.Entry.TheVariants as entry
use Rattle.ti_types.specs.declared.event.Ticket.{Ticket}
use Rattle.ti_types.specs.declared.event.Event.TheVariants as event
use Rattle.ti_types.specs.declared.event.Outcome.{Outcome}
use Rattle.ti_types.specs.declared.event.Outcome.TheVariants as outcome
use Rattle.ti_types.specs.declared.error.TiError.{TiError}
use Rattle.ti_types.specs.declared.error.TiError.TheVariants.{NotRunning}
use Rattle.ti_types.specs.declared.answer.Answer.{Answer}
use Rattle.ti_types.specs.declared.view.ThreadView.{ThreadView}
use Rattle.ti_replay.specs.Answers.{is_running}
use Rattle.ti_replay.specs.View.{view, is_barred}
use Rattle.ti_replay.specs.Legal.{own_spent, is_armed}
use Rattle.ti_replay.specs.Replies.{reply}
use Rattle.ti_replay.specs.Refusals.{own_refusal}
use Rattle.ti_replay.specs.Events.{stopping_refusal, if_none, gave_unless, read_outcome}
use Rattle.ti_replay.specs.LateTickets.{steps_of}
use Rattle.ti_slot.specs.Thread.{Thread, with_more, with_tickets, next_asked, ticket_of, new_slot}
use Rattle.ti_slot.specs.Tickets.{without_ticket}

-- what lies in the slot, and the steps that the running thread has logged since
pub record ThreadState : Type 0 where
  pub thread : Thread
  pub steps : List Step

-- the history with the logged steps after it
abbrev pub entries : ThreadState → List Entry
entries s = s.thread.history ++ steps_of s.steps

abbrev pub seen : Limits → ThreadState → ThreadView
seen limits s = view limits (entries s)

-- a step is logged. Every other entry of the thread's own goes into the slot, after the logged steps
abbrev pub entered : ThreadState → Entry → ThreadState
entered s (entry.Own step) = record { thread = s.thread; steps = s.steps ++ step ∷ [] }
entered s x = record { thread = with_more s.thread (steps_of s.steps ++ x ∷ []); steps = [] }

abbrev pub refusal_at : Limits → ThreadState → Entry → Option TiError
refusal_at limits s x = own_refusal limits (seen limits s) (own_spent (entries s)) x

abbrev pub entered_unless : Option TiError → ThreadState → Entry → ThreadState
entered_unless None s x = entered s x
entered_unless (Some error) s x = s

-- an event of the thread's own that is no poll
abbrev pub own_next : Limits → ThreadState → Entry → ThreadState
own_next limits s x = entered_unless (refusal_at limits s x) s x

-- whether an own event that is no poll is made, or why not
abbrev pub own_said : Option TiError → Result (Unit {0}) TiError
own_said None = Ok tt
own_said (Some error) = Err error

abbrev pub at_poll : ThreadState → ThreadState
at_poll s = entered s (entry.Hand AtPoll)

abbrev pub poll_next : Limits → ThreadState → ThreadState
poll_next limits s =
    if not (is_running (seen limits s).mode) then s
    else if not (is_armed limits (entries s)) then s
    else if is_barred (seen limits (at_poll s)) then at_poll s else entered (at_poll s) entry.Back

abbrev pub poll_said : Limits → ThreadState → Outcome
poll_said limits s =
    if not (is_running (seen limits s).mode) then outcome.Refused NotRunning
    else if not (is_armed limits (entries s)) then outcome.Clear
    else if is_barred (seen limits (at_poll s)) then outcome.Held else outcome.Went

-- the slot with more entries
abbrev pub more : ThreadState → List Entry → ThreadState
more s added = record { thread = with_more s.thread added; steps = s.steps }

-- what the slot's history replies to a call at once
abbrev pub reply_now : Limits → ThreadState → EnvNo → Call → Option Answer
reply_now limits s env call = reply limits (s.thread.history ++ next_asked s.thread env call ∷ []) (length s.thread.history)

abbrev pub tickets_after : Thread → EnvNo → Option Answer → List Ticket
tickets_after t env None = t.uncollected ++ ticket_of t env ∷ []
tickets_after t env (Some a) = t.uncollected

-- an admitted call
abbrev pub ask_next : Limits → ThreadState → EnvNo → Call → ThreadState
ask_next limits s env call =
    record {
      thread = with_tickets (with_more s.thread (next_asked s.thread env call ∷ [])) (tickets_after s.thread env (reply_now limits s env call));
      steps = s.steps;
    }

abbrev pub held_by : Limits → ThreadState → Option TiError → Entry → ThreadState
held_by limits s refusal x = more s (if_none refusal (x ∷ []))

abbrev pub stop_next : Limits → ThreadState → EnvNo → ThreadNo → ThreadState
stop_next limits s env t = held_by limits s (stopping_refusal (view limits s.thread.history) (event.Stop env t)) (entry.Stop env)

abbrev pub go_next : Limits → ThreadState → EnvNo → ThreadNo → ThreadState
go_next limits s env t = held_by limits s (stopping_refusal (view limits s.thread.history) (event.Go env t)) (entry.Go env)

abbrev pub read_next : Limits → ThreadState → EnvNo → ThreadNo → ℤ → ThreadState
read_next limits s env t n = held_by limits s (stopping_refusal (view limits s.thread.history) (event.Read env t n)) (entry.Read env n)

abbrev pub stop_told : Limits → ThreadState → EnvNo → ThreadNo → Option Outcome
stop_told limits s env t = gave_unless (stopping_refusal (view limits s.thread.history) (event.Stop env t))

abbrev pub go_told : Limits → ThreadState → EnvNo → ThreadNo → Option Outcome
go_told limits s env t = gave_unless (stopping_refusal (view limits s.thread.history) (event.Go env t))

abbrev pub read_told : Limits → ThreadState → EnvNo → ThreadNo → ℤ → Option Outcome
read_told limits s env t n =
    read_outcome (stopping_refusal (view limits s.thread.history) (event.Read env t n))
    (reply limits (read_next limits s env t n).thread.history (length s.thread.history))

-- the thread after an answer was looked for: without its ticket, if it was found
abbrev pub taken : ThreadState → Ticket → Bool → ThreadState
taken s ticket found =
    record { thread = with_tickets s.thread (if found then without_ticket ticket s.thread.uncollected else s.thread.uncollected); steps = s.steps }

abbrev pub new_state : Limits → ThreadNo → ThreadState
new_state limits t = record { thread = new_slot limits t; steps = [] }

-- an entry of a thread's own that no poll leaves
abbrev pub is_made : Entry → Bool
is_made entry.Start = true
is_made (entry.Own step) = true
is_made (entry.Hand Native) = true
is_made (entry.Hand (Blocked kind)) = true
is_made entry.Back = true
is_made entry.End = true
is_made _ = false

-- the outcome of an own event
abbrev pub made_told : Result (Unit {0}) TiError → Option Outcome
made_told (Ok done) = Some outcome.Done
made_told (Err error) = Some (outcome.Refused error)
