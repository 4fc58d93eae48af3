-- The history that a list of events leaves of a thread, and the outcome of each event.
use Rattle.std.specs.Prelude.{Bool, ◌&&◌, ◌||◌, not, if◌then◌else◌, nat_lt, List, [], ◌∷◌, ◌++◌, length, Option, Some, None, is_none}
use Rattle.ti_types.specs.declared.limits.Limits.{Limits}
use Rattle.ti_types.specs.declared.numbers.ThreadNo.{ThreadNo}
use Rattle.ti_types.specs.declared.caps.Caps.{Caps}
use Rattle.ti_types.specs.declared.state.Safe.TheVariants.{Native, Blocked, AtPoll}
use Rattle.ti_types.specs.declared.entry.Entry.{Entry}
use Rattle.ti_types.specs.declared.entry.Entry.TheVariants as entry
use Rattle.ti_types.specs.declared.error.TiError.{TiError}
use Rattle.ti_types.specs.declared.error.TiError.TheVariants.{InvalidThread, InvalidEnvironment, NotAvailable, NotRunning}
use Rattle.ti_types.specs.declared.answer.Answer.{Answer}
use Rattle.ti_types.specs.declared.answer.Answer.TheVariants as answer
use Rattle.ti_types.specs.declared.event.Event.{Event}
use Rattle.ti_types.specs.declared.event.Event.TheVariants.{Start, Own, Poll, ToNative, ToBlocked, Back, End, Ask, Stop, Read, Go, AddCaps, Relinquish, GetCaps}
use Rattle.ti_types.specs.declared.event.Outcome.{Outcome}
use Rattle.ti_types.specs.declared.event.Outcome.TheVariants as outcome
use Rattle.ti_types.specs.declared.view.ThreadView.{ThreadView}
use Rattle.ti_replay.specs.Answers.{is_running}
use Rattle.ti_replay.specs.View.{view, is_barred}
use Rattle.ti_replay.specs.Legal.{own_spent, asked_by, is_armed}
use Rattle.ti_replay.specs.Replies.{reply}
use Rattle.ti_replay.specs.Refusals.{own_refusal, held_refusal, or_else, unless}
use Rattle.ti_replay.specs.Admission.{Happening, dealings_by, refusal, can_be_had, agent_of, is_aimed_at, is_own_of}

-- the one entry that an event of a thread's own leaves, if it is no poll
abbrev pub own_entry : Event → Option Entry
own_entry (Start t) = Some entry.Start
own_entry (Own t step) = Some (entry.Own step)
own_entry (ToNative t) = Some (entry.Hand Native)
own_entry (ToBlocked t kind) = Some (entry.Hand (Blocked kind))
own_entry (Back t) = Some entry.Back
own_entry (End t) = Some entry.End
own_entry _ = None

-- why the thread's own answer to a stop, a read or a go is a refusal
abbrev pub stopping_refusal : ThreadView → Event → Option TiError
stopping_refusal v (Stop e t) = held_refusal v (entry.Stop e)
stopping_refusal v (Read e t max_count) = held_refusal v (entry.Read e max_count)
stopping_refusal v (Go e t) = held_refusal v (entry.Go e)
stopping_refusal v _ = None

abbrev pub if_none : Option TiError → List Entry → List Entry
if_none None entries = entries
if_none (Some error) entries = []

-- What a poll leaves. Nothing, if nobody calls for the thread. Otherwise a hand-over, and the return if nothing bars it
abbrev pub left_by_poll : Limits → List Entry → List Entry
left_by_poll limits history =
    if is_running (view limits history).mode && is_armed limits history
    then (if is_barred (view limits (history ++ entry.Hand AtPoll ∷ [])) then entry.Hand AtPoll ∷ [] else entry.Hand AtPoll ∷ entry.Back ∷ [])
    else []

abbrev pub left_own : Limits → List Entry → Option Entry → List Entry
left_own limits history (Some x) = if_none (own_refusal limits (view limits history) (own_spent history) x) (x ∷ [])
left_own limits history None = []

-- the entries that an event leaves after a history of its thread, if it is the thread's own or an admitted call
abbrev pub left_by : Limits → List Entry → Event → List Entry
left_by limits history (Poll t) = left_by_poll limits history
left_by limits history (Ask e t call) = entry.Asked e (asked_by e history) call ∷ []
left_by limits history (Stop e t) = if_none (stopping_refusal (view limits history) (Stop e t)) (entry.Stop e ∷ [])
left_by limits history (Read e t max_count) = if_none (stopping_refusal (view limits history) (Read e t max_count)) (entry.Read e max_count ∷ [])
left_by limits history (Go e t) = if_none (stopping_refusal (view limits history) (Go e t)) (entry.Go e ∷ [])
left_by limits history event = left_own limits history (own_entry event)

-- whether an event, after these, is the thread's own or an admitted call at it
abbrev pub reaches : Limits → ThreadNo → List Happening → Happening → Bool
reaches limits thread front h =
    (is_own_of thread h.event && nat_lt thread.0 limits.threads)
    || (is_aimed_at thread h.event && is_none (refusal limits (dealings_by limits (agent_of h.event) thread front) h))

abbrev pub history_behind : Limits → ThreadNo → List Happening → List Entry → Happening → List Entry
history_behind limits thread front history h = if reaches limits thread front h then history ++ left_by limits history h.event else history

abbrev pub history_from : Limits → ThreadNo → List Happening → List Entry → List Happening → List Entry
history_from limits thread front history [] = history
history_from limits thread front history (h ∷ events) = history_from limits thread (front ++ h ∷ []) (history_behind limits thread front history h) events

-- the history of a thread
abbrev pub history_of : Limits → ThreadNo → List Happening → List Entry
history_of limits thread events = history_from limits thread [] [] events

abbrev pub gave_unless : Option TiError → Option Outcome
gave_unless None = Some (outcome.Gave answer.Done)
gave_unless (Some error) = Some (outcome.Gave (answer.Refused error))

abbrev pub done_unless : Option TiError → Option Outcome
done_unless None = Some outcome.Done
done_unless (Some error) = Some (outcome.Refused error)

abbrev pub poll_outcome : Limits → List Entry → Outcome
poll_outcome limits history =
    if not (is_running (view limits history).mode) then outcome.Refused NotRunning
    else if not (is_armed limits history) then outcome.Clear
    else if is_barred (view limits (history ++ entry.Hand AtPoll ∷ [])) then outcome.Held else outcome.Went

abbrev pub given : Option Answer → Option Outcome
given (Some a) = Some (outcome.Gave a)
given None = None

abbrev pub read_outcome : Option TiError → Option Answer → Option Outcome
read_outcome None a = given a
read_outcome (Some error) a = Some (outcome.Gave (answer.Refused error))

abbrev pub own_outcome : Limits → List Entry → Option Entry → Option Outcome
own_outcome limits history (Some x) = done_unless (own_refusal limits (view limits history) (own_spent history) x)
own_outcome limits history None = None

-- the outcome of an own event or an admitted call, by the whole history of its thread and the history before it
abbrev pub outcome_there : Limits → List Entry → List Entry → Event → Option Outcome
outcome_there limits whole history (Poll t) = Some (poll_outcome limits history)
outcome_there limits whole history (Ask e t call) = given (reply limits whole (length history))
outcome_there limits whole history (Stop e t) = gave_unless (stopping_refusal (view limits history) (Stop e t))
outcome_there limits whole history (Read e t max_count) = read_outcome (stopping_refusal (view limits history) (Read e t max_count)) (reply limits whole (length history))
outcome_there limits whole history (Go e t) = gave_unless (stopping_refusal (view limits history) (Go e t))
outcome_there limits whole history event = own_outcome limits history (own_entry event)

-- the outcome of a call about capabilities
abbrev pub caps_outcome : Limits → Caps → Event → Option Outcome
caps_outcome limits held (AddCaps e caps) =
    gave_unless (or_else (unless (nat_lt e.0 limits.envs) InvalidEnvironment) (unless (can_be_had caps) NotAvailable))
caps_outcome limits held (Relinquish e caps) = gave_unless (unless (nat_lt e.0 limits.envs) InvalidEnvironment)
caps_outcome limits held (GetCaps e) =
    if nat_lt e.0 limits.envs then Some (outcome.Gave (answer.Caps held)) else Some (outcome.Gave (answer.Refused InvalidEnvironment))
caps_outcome limits held event = None

abbrev pub refused_or : Option TiError → Option Outcome → Option Outcome
refused_or (Some error) other = Some (outcome.Gave (answer.Refused error))
refused_or None other = other

-- the outcome, among all events, of one at a thread or about capabilities, after a prefix of them
abbrev pub outcome_of : Limits → ThreadNo → List Happening → List Happening → Happening → Option Outcome
outcome_of limits thread all front h =
    let d = dealings_by limits (agent_of h.event) thread front in
    if is_own_of thread h.event
    then (if nat_lt thread.0 limits.threads then outcome_there limits (history_of limits thread all) (history_of limits thread front) h.event else Some (outcome.Refused InvalidThread))
    else if is_aimed_at thread h.event
    then refused_or (refusal limits d h) (outcome_there limits (history_of limits thread all) (history_of limits thread front) h.event)
    else caps_outcome limits d.caps h.event
