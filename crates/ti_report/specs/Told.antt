-- The answers that the histories give an agent.
use Rattle.std.specs.Prelude.{ℕ, ◌+◌, Bool, true, false, ◌&&◌, if◌then◌else◌, ◌==◌, List, [], ◌∷◌, ◌++◌, map, Option, Some, None, is_none, slice_get, slice_index_or, int_le, ℤ}
use Rattle.std.specs.List.{filter}
use Rattle.ti_types.specs.declared.limits.Limits.{Limits}
use Rattle.ti_types.specs.declared.numbers.EnvNo.{EnvNo}
use Rattle.ti_types.specs.declared.numbers.ThreadNo.{ThreadNo}
use Rattle.ti_types.specs.declared.call.Call.{Call}
use Rattle.ti_types.specs.declared.call.Call.TheVariants.{State, FrameCount, Trace, Location, Suspend, Resume, GetWord, SetWord, Pop}
use Rattle.ti_types.specs.declared.entry.Entry.{Entry}
use Rattle.ti_types.specs.declared.entry.Entry.TheVariants as entry
use Rattle.ti_types.specs.declared.answer.Answer.{Answer}
use Rattle.ti_types.specs.declared.answer.Answer.TheVariants.{Done, Refused}
use Rattle.ti_types.specs.declared.error.TiError.{TiError}
use Rattle.ti_types.specs.declared.error.TiError.TheVariants.{CallsSpent}
use Rattle.ti_replay.specs.Legal.{calls_spent, env_of}
use Rattle.ti_types.specs.declared.event.Event.{Event}
use Rattle.ti_types.specs.declared.event.Event.TheVariants.{Ask, Stop, Read, Go, AddCaps, Relinquish, GetCaps, SetEnvWord, GetEnvWord}
use Rattle.ti_types.specs.declared.event.Outcome.{Outcome}
use Rattle.ti_types.specs.declared.event.Outcome.TheVariants.{Gave}
use Rattle.ti_replay.specs.Admission.{Happening, dealings, refusal, is_aimed_at, is_env}
use Rattle.ti_replay.specs.Outcomes.{out_of}
use Rattle.ti_replay.specs.Replies.{reply}
use Rattle.ti_replay.specs.Settling.{placed}

-- whether two calls are the same
abbrev pub same_int : ℤ → ℤ → Bool
same_int a b = int_le a b && int_le b a

abbrev pub same_call : Call → Call → Bool
same_call State State = true
same_call FrameCount FrameCount = true
same_call (Trace start count) (Trace start' count') = same_int start start' && same_int count count'
same_call (Location depth) (Location depth') = same_int depth depth'
same_call Suspend Suspend = true
same_call Resume Resume = true
same_call GetWord GetWord = true
same_call (SetWord word) (SetWord word') = word == word'
same_call Pop Pop = true
same_call _ _ = false

-- ---- what an agent has left in a thread's history, and got there

-- whether this agent made the entry
abbrev pub is_left_by : EnvNo → Entry → Bool
is_left_by e entry = is_env e (env_of entry)

-- what an entry of an agent got: a call and a read their reply; a stop and a go are done
abbrev pub granted : Entry → (reply : Option Answer) → Option Answer
granted (entry.Stop e) reply = Some Done
granted (entry.Go e) reply = Some Done
granted _ reply = reply

-- the entries that the agent left at a thread with this history, in their order, and what each got
abbrev pub got : Limits → EnvNo → List Entry → List (Entry × Option Answer)
got limits e history = map (λ p. (p.1, granted p.1 (reply limits history p.0))) (filter (λ p. is_left_by e p.1) (placed history))

-- whether an event leaves this entry
abbrev pub asks_same : Event → Entry → Bool
asks_same (Ask e t call) (entry.Asked other number call') = same_call call call'
asks_same (Stop e t) (entry.Stop other) = true
asks_same (Read e t max_count) (entry.Read other max_count') = same_int max_count max_count'
asks_same (Go e t) (entry.Go other) = true
asks_same _ _ = false

-- ---- what an agent does, and the answers

-- the thread of a call at a thread, and 0 for other events
abbrev pub thread_of : Event → ThreadNo
thread_of (Ask e t call) = t
thread_of (Stop e t) = t
thread_of (Read e t max_count) = t
thread_of (Go e t) = t
thread_of _ = record { 0 = 0 }

-- whether an event is an agent's call at a thread; a stop and a go are such calls
abbrev pub is_call : Event → Bool
is_call (Ask e t call) = true
is_call (Stop e t) = true
is_call (Read e t max_count) = true
is_call (Go e t) = true
is_call _ = false

-- whether an event is about the environment alone
abbrev pub is_about_env : Event → Bool
is_about_env (AddCaps e caps) = true
is_about_env (Relinquish e caps) = true
is_about_env (GetCaps e) = true
is_about_env (SetEnvWord e word) = true
is_about_env (GetEnvWord e) = true
is_about_env _ = false

-- why an event does not reach its thread, after what its agent has done
abbrev pub why : Limits → EnvNo → List Happening → Happening → Option TiError
why limits e done h = refusal limits (dealings limits e (thread_of h.event) done) h

-- 1 for a call that reaches this thread
abbrev pub uses : Limits → EnvNo → ThreadNo → List Happening → Happening → ℕ
uses limits e t done h = if is_call h.event && is_aimed_at t h.event && is_none (why limits e done h) then 1 else 0

-- how many calls of these reach this thread, after what was done
abbrev pub uses_from : Limits → EnvNo → ThreadNo → List Happening → List Happening → ℕ
uses_from limits e t done [] = 0
uses_from limits e t done (h ∷ hs) = uses limits e t done h + uses_from limits e t (done ++ h ∷ []) hs

abbrev pub used : Limits → EnvNo → ThreadNo → List Happening → ℕ
used limits e t done = uses_from limits e t [] done

-- what an entry got, if it is the entry that the event leaves
abbrev pub got_by : Event → Option (Entry × Option Answer) → Option Answer
got_by event (Some p) = if asks_same event p.0 then p.1 else None
got_by event None = None

-- whether a refusal is due; 209 is due only if the agent has spent all its calls at the thread
abbrev pub is_due : (calls spent : ℕ) → TiError → Bool
is_due calls spent CallsSpent = spent == calls
is_due calls spent _ = true

-- the refusal, if there is one and it is due; otherwise what an entry got
abbrev pub refused_or_got : Option TiError → (TiError → Bool) → Option Answer → Option Answer
refused_or_got (Some error) due answer = if due error then Some (Refused error) else None
refused_or_got None due answer = answer

abbrev pub given_by : Option Outcome → Option Answer
given_by (Some (Gave answer)) = Some answer
given_by _ = None

abbrev pub history_at : List (List Entry) → ThreadNo → List Entry
history_at histories t = slice_index_or histories t.0 []

-- The answer to an event, after what its agent has done. A call at a thread may be refused before it reaches the thread.
-- With 209 it is refused only if the thread's history has as many calls, stops and reads of the agent as it may spend.
-- Otherwise the call uses the next entry that the agent left there. That has to be the call's own entry, and the answer is
-- what it got. The answer to a call about the environment depends on the agent's own doings alone
abbrev pub told : Limits → List (List Entry) → EnvNo → List Happening → Happening → Option Answer
told limits histories e done h =
    let t = thread_of h.event in
    if is_call h.event
    then refused_or_got (why limits e done h) (is_due limits.calls (calls_spent e (history_at histories t))) (got_by h.event (slice_get (got limits e (history_at histories t)) (used limits e t done)))
    else if is_about_env h.event then given_by (out_of limits done done h) else None
