-- All threads and environments of a core, and how each event changes them.
use Rattle.std.specs.Prelude.{◌<◌, ◌≤◌, ◌⊎◌, is_none, ◌≡◌, Bool, false, ◌&&◌, nat_lt, if◌then◌else◌, List, [], length, Option, Some, None, slice_index_or, slice_set, ℤ}
use Rattle.ti_types.specs.declared.limits.Limits.{Limits}
use Rattle.ti_types.specs.declared.numbers.EnvNo.{EnvNo}
use Rattle.ti_types.specs.declared.numbers.ThreadNo.{ThreadNo}
use Rattle.ti_types.specs.declared.caps.Caps.{Caps}
use Rattle.ti_types.specs.declared.call.Call.{Call}
use Rattle.ti_types.specs.declared.entry.Entry.{Entry}
use Rattle.ti_types.specs.declared.event.Event.{Event}
use Rattle.ti_types.specs.declared.event.Event.TheVariants.{Start, Own, Poll, ToNative, ToBlocked, Back, End, Ask, Stop, Read, Go, AddCaps, Relinquish, GetCaps, SetEnvWord, GetEnvWord}
use Rattle.ti_types.specs.declared.event.Ticket.{Ticket}
use Rattle.ti_types.specs.declared.event.Outcome.{Outcome}
use Rattle.ti_types.specs.declared.event.Outcome.TheVariants as outcome
use Rattle.ti_types.specs.declared.answer.Answer.{Answer}
use Rattle.ti_types.specs.declared.answer.Answer.TheVariants as answer
use Rattle.ti_types.specs.declared.error.TiError.{TiError}
use Rattle.ti_types.specs.declared.error.TiError.TheVariants.{Full, InvalidEnvironment, InvalidThread, NotAvailable, OutOfMemory}
use Rattle.ti_types.specs.Caps.{caps_with, caps_without}
use Rattle.ti_types.specs.Least.{least}
use Rattle.ti_types.specs.Admitting.{admitting_refusal, going_refusal}
use Rattle.ti_replay.specs.Admission.{Happening, takes_buffer, can_be_had}
use Rattle.ti_replay.specs.Events.{own_entry, given, done_unless}
use Rattle.ti_slot.specs.Thread.{ticket_of}
use Rattle.ti_slot.specs.Tickets.{has, same}
use Rattle.ti_env.specs.Env.{EnvValue, call_refusal, stop_refusal, read_refusal, with_caps, with_word, with_spent}
use Rattle.ti_core.specs.Thread.{ThreadState, refusal_at, own_next, poll_next, poll_said, reply_now, ask_next, stop_next, stop_told, go_next, go_told, read_next, read_told, taken, new_state}

-- why no core is made: its limits let a thread leave more answers lying than it has room for, or there is no memory
abbrev pub RefusesCore : Limits → TiError → Type 0
RefusesCore limits e = ((e ≡ Full) × (limits.window < limits.calls)) ⊎ ((e ≡ OutOfMemory) × (limits.calls ≤ limits.window))

pub record CoreState : Type 0 where
  pub limits : Limits
  pub envs : List EnvValue
  pub threads : List ThreadState

abbrev pub core_of : Limits → List EnvValue → List ThreadState → CoreState
core_of limits envs threads = record { limits = limits; envs = envs; threads = threads }

-- what an event leaves, and its outcome at once. None: the call was posted
pub record StepResult : Type 0 where
  pub envs : List EnvValue
  pub threads : List ThreadState
  pub told : Option Outcome

-- a thread that no core has, with these limits
abbrev pub no_thread : Limits → ThreadState
no_thread limits = new_state limits (record { 0 = 0 })

abbrev pub no_env : EnvValue
no_env = record { caps = record { bits = 0 }; had = record { bits = 0 }; spent = []; limits = least; word = 0; known = 0 }

abbrev pub thread_at : Limits → List ThreadState → ThreadNo → ThreadState
thread_at limits threads t = slice_index_or threads t.0 (no_thread limits)

abbrev pub env_at : List EnvValue → EnvNo → EnvValue
env_at envs e = slice_index_or envs e.0 no_env

abbrev pub error_told : TiError → Option Outcome
error_told error = Some (outcome.Gave (answer.Refused error))

-- one call more spent by an environment at a thread
abbrev pub spending : List EnvValue → EnvNo → ThreadNo → List EnvValue
spending envs e t = slice_set envs e.0 (with_spent (env_at envs e) t)

-- an event of a thread's own that is no poll
abbrev pub stepped_own : Limits → List EnvValue → List ThreadState → ThreadNo → Entry → StepResult
stepped_own limits envs threads t x =
    let s = thread_at limits threads t in
    if nat_lt t.0 (length threads)
    then record { envs = envs; threads = slice_set threads t.0 (own_next s.thread.limits s x); told = done_unless (refusal_at s.thread.limits s x) }
    else record { envs = envs; threads = threads; told = Some (outcome.Refused InvalidThread) }

abbrev pub stepped_poll : Limits → List EnvValue → List ThreadState → ThreadNo → StepResult
stepped_poll limits envs threads t =
    let s = thread_at limits threads t in
    if nat_lt t.0 (length threads)
    then record { envs = envs; threads = slice_set threads t.0 (poll_next s.thread.limits s); told = Some (poll_said s.thread.limits s) }
    else record { envs = envs; threads = threads; told = Some (outcome.Refused InvalidThread) }

-- why a call does not reach its thread, if its environment refuses it so by itself
abbrev pub why_not : List EnvValue → EnvNo → Option TiError → Bool → Option TiError
why_not envs e by_itself wanting = admitting_refusal (nat_lt e.0 (length envs)) by_itself wanting

abbrev pub refused_or_else : List EnvValue → List ThreadState → Option TiError → StepResult → StepResult
refused_or_else envs threads (Some error) other = record { envs = envs; threads = threads; told = error_told error }
refused_or_else envs threads None other = other

abbrev pub stepped_ask : Limits → List EnvValue → List ThreadState → Bool → EnvNo → ThreadNo → Call → StepResult
stepped_ask limits envs threads wanting e t call =
    let s = thread_at limits threads t in
    refused_or_else envs threads (why_not envs e (call_refusal (env_at envs e) t call) (wanting && takes_buffer call))
    (record {
      envs = spending envs e t;
      threads = slice_set threads t.0 (ask_next s.thread.limits s e call);
      told = given (reply_now s.thread.limits s e call);
    })

abbrev pub stepped_stop : Limits → List EnvValue → List ThreadState → EnvNo → ThreadNo → StepResult
stepped_stop limits envs threads e t =
    let s = thread_at limits threads t in
    refused_or_else envs threads (why_not envs e (stop_refusal (env_at envs e) t) false)
    (record { envs = spending envs e t; threads = slice_set threads t.0 (stop_next s.thread.limits s e s.thread.number); told = stop_told s.thread.limits s e s.thread.number })

abbrev pub stepped_read : Limits → List EnvValue → List ThreadState → Bool → EnvNo → ThreadNo → ℤ → StepResult
stepped_read limits envs threads wanting e t max_count =
    let s = thread_at limits threads t in
    refused_or_else envs threads (why_not envs e (read_refusal (env_at envs e) t max_count) wanting)
    (record {
      envs = spending envs e t;
      threads = slice_set threads t.0 (read_next s.thread.limits s e s.thread.number max_count);
      told = read_told s.thread.limits s e s.thread.number max_count;
    })

abbrev pub stepped_go : Limits → List EnvValue → List ThreadState → EnvNo → ThreadNo → StepResult
stepped_go limits envs threads e t =
    let s = thread_at limits threads t in
    refused_or_else envs threads (why_not envs e (going_refusal (nat_lt t.0 (length threads))) false)
    (record { envs = envs; threads = slice_set threads t.0 (go_next s.thread.limits s e s.thread.number); told = go_told s.thread.limits s e s.thread.number })

abbrev pub with_env : List EnvValue → List ThreadState → EnvNo → EnvValue → Option Outcome → StepResult
with_env envs threads e env told =
    if nat_lt e.0 (length envs)
    then record { envs = slice_set envs e.0 env; threads = threads; told = told }
    else record { envs = envs; threads = threads; told = error_told InvalidEnvironment }

abbrev pub stepped_add : List EnvValue → List ThreadState → EnvNo → Caps → StepResult
stepped_add envs threads e caps =
    let env = env_at envs e in
    if can_be_had caps then with_env envs threads e (with_caps env (caps_with env.caps caps)) (Some (outcome.Gave answer.Done))
    else with_env envs threads e env (error_told NotAvailable)

abbrev pub stepped_relinquish : List EnvValue → List ThreadState → EnvNo → Caps → StepResult
stepped_relinquish envs threads e caps =
    let env = env_at envs e in
    with_env envs threads e (with_caps env (caps_without env.caps caps)) (Some (outcome.Gave answer.Done))

abbrev pub stepped_tell : List EnvValue → List ThreadState → EnvNo → Answer → StepResult
stepped_tell envs threads e a =
    record { envs = envs; threads = threads; told = if nat_lt e.0 (length envs) then Some (outcome.Gave a) else error_told InvalidEnvironment }

abbrev pub stepped_own_if : Limits → List EnvValue → List ThreadState → ThreadNo → Option Entry → StepResult
stepped_own_if limits envs threads t (Some x) = stepped_own limits envs threads t x
stepped_own_if limits envs threads t None = record { envs = envs; threads = threads; told = Some outcome.Done }

abbrev pub stepped_by : Limits → List EnvValue → List ThreadState → Bool → Event → StepResult
stepped_by limits envs threads wanting (Poll t) = stepped_poll limits envs threads t
stepped_by limits envs threads wanting (Ask e t call) = stepped_ask limits envs threads wanting e t call
stepped_by limits envs threads wanting (Stop e t) = stepped_stop limits envs threads e t
stepped_by limits envs threads wanting (Read e t max_count) = stepped_read limits envs threads wanting e t max_count
stepped_by limits envs threads wanting (Go e t) = stepped_go limits envs threads e t
stepped_by limits envs threads wanting (AddCaps e caps) = stepped_add envs threads e caps
stepped_by limits envs threads wanting (Relinquish e caps) = stepped_relinquish envs threads e caps
stepped_by limits envs threads wanting (GetCaps e) = stepped_tell envs threads e (answer.Caps (env_at envs e).caps)
stepped_by limits envs threads wanting (SetEnvWord e word) = with_env envs threads e (with_word (env_at envs e) word) (Some (outcome.Gave answer.Done))
stepped_by limits envs threads wanting (GetEnvWord e) = stepped_tell envs threads e (answer.Word (env_at envs e).word)
stepped_by limits envs threads wanting (Start t) = stepped_own_if limits envs threads t (own_entry (Start t))
stepped_by limits envs threads wanting (Own t step) = stepped_own_if limits envs threads t (own_entry (Own t step))
stepped_by limits envs threads wanting (ToNative t) = stepped_own_if limits envs threads t (own_entry (ToNative t))
stepped_by limits envs threads wanting (ToBlocked t kind) = stepped_own_if limits envs threads t (own_entry (ToBlocked t kind))
stepped_by limits envs threads wanting (Back t) = stepped_own_if limits envs threads t (own_entry (Back t))
stepped_by limits envs threads wanting (End t) = stepped_own_if limits envs threads t (own_entry (End t))

abbrev pub stepped : CoreState → Happening → StepResult
stepped s h = stepped_by s.limits s.envs s.threads h.wanting h.event

-- the core after an event
abbrev pub core_next : CoreState → Happening → CoreState
core_next s h = let n = stepped s h in record s { envs = n.envs; threads = n.threads }

abbrev pub core_told : CoreState → Happening → Option Outcome
core_told s h = (stepped s h).told

-- whether a ticket was given out and its answer not taken
abbrev pub is_uncollected : CoreState → Ticket → Bool
is_uncollected s ticket = has ticket (thread_at s.limits s.threads ticket.thread).thread.uncollected

-- the core after an answer was looked for, and taken if it was found
abbrev pub core_taken : CoreState → Ticket → Bool → CoreState
core_taken s ticket found = record s { threads = slice_set s.threads ticket.thread.0 (taken (thread_at s.limits s.threads ticket.thread) ticket found) }

-- the ticket of an event's call: the environment's next at the thread
abbrev pub IsTicketOf : Limits → List EnvValue → List ThreadState → Event → Ticket → Type 0
IsTicketOf limits envs threads (Ask e t call) k = (t.0 < length threads) × ((e.0 < length envs) × (k ≡ ticket_of (thread_at limits threads t).thread e))
IsTicketOf limits envs threads _ k = ⊥

-- whether an event posts this ticket
abbrev pub posts : CoreState → Happening → Event → Ticket → Bool
posts s h (Ask e t call) k = is_none (core_told s h) && same (ticket_of (thread_at s.limits s.threads t).thread e) k
posts s h _ k = false
