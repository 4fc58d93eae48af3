-- What an agent has done by its calls, as a list of events of its own.
use Rattle.std.specs.Prelude.{ℕ, zero, suc, ◌+◌, Bool, true, false, not, if◌then◌else◌, ◌==◌, nat_lt, nat_le, List, [], ◌∷◌, ◌++◌, map, Option, None, is_none, ℤ}
use Rattle.std.specs.List.{list_all, filter, sum_by}
use Rattle.ti_types.specs.declared.limits.Limits.{Limits}
use Rattle.ti_types.specs.declared.numbers.EnvNo.{EnvNo}
use Rattle.ti_types.specs.declared.numbers.ThreadNo.{ThreadNo}
use Rattle.ti_types.specs.declared.call.Call.TheVariants.{Suspend, Resume}
use Rattle.ti_types.specs.declared.answer.Answer.TheVariants.{Refused}
use Rattle.ti_types.specs.declared.error.TiError.{TiError}
use Rattle.ti_types.specs.declared.error.TiError.TheVariants.{MustPossessCapability, InvalidThread, IllegalArgument, CallsSpent, OutOfMemory}
use Rattle.ti_types.specs.declared.event.Event.{Event}
use Rattle.ti_types.specs.declared.event.Event.TheVariants.{Ask, Stop, Read, Go, AddCaps, Relinquish, GetCaps, SetEnvWord, GetEnvWord}
use Rattle.ti_types.specs.Call.{needed_by}
use Rattle.ti_types.specs.Numbers.{is_not_negative}
use Rattle.ti_types.specs.Refusing.{or_else, unless}
use Rattle.ti_replay.specs.Admission.{Happening, dealings, has_all}
use Rattle.ti_live.specs.declared.call.AgentCall.{AgentCall}
use Rattle.ti_live.specs.declared.call.AgentCall.TheVariants as call
use Rattle.ti_live.specs.declared.reply.Reply.{Reply}
use Rattle.ti_live.specs.declared.reply.Reply.TheVariants.{Plain}

-- this many threads, from this number on
abbrev pub threads_from : ℕ → ℕ → List ThreadNo
threads_from first zero = []
threads_from first (suc n) = record { 0 = first } ∷ threads_from (first + 1) n

abbrev pub every_thread : Limits → List ThreadNo
every_thread limits = threads_from 0 limits.threads

-- how often a thread is in a list
abbrev pub times : ThreadNo → List ThreadNo → ℕ
times thread threads = sum_by (λ t. if t.0 == thread.0 then 1 else 0) threads

-- the threads of a list, each once
abbrev pub once : Limits → List ThreadNo → List ThreadNo
once limits threads = filter (λ t. nat_lt 0 (times t threads)) (every_thread limits)

-- a stop of each thread of a list, a read for each element, and a go of each thread
abbrev pub looks : Limits → EnvNo → List ThreadNo → ℤ → List Event
looks limits e threads max_count =
    map (λ t. Stop e t) (once limits threads) ++ (map (λ t. Read e t max_count) threads ++ map (λ t. Go e t) (once limits threads))

-- the events that a call makes, if it is not refused as a whole
abbrev pub events_of : Limits → EnvNo → AgentCall → List Event
events_of limits e (call.Ask t c) = Ask e t c ∷ []
events_of limits e (call.AddCaps caps) = AddCaps e caps ∷ []
events_of limits e (call.Relinquish caps) = Relinquish e caps ∷ []
events_of limits e call.GetCaps = GetCaps e ∷ []
events_of limits e (call.SetEnvWord word) = SetEnvWord e word ∷ []
events_of limits e call.GetEnvWord = GetEnvWord e ∷ []
events_of limits e (call.SuspendList threads) = map (λ t. Ask e t Suspend) threads
events_of limits e (call.ResumeList threads) = map (λ t. Ask e t Resume) threads
events_of limits e (call.AllStacks max_count) = looks limits e (every_thread limits) max_count
events_of limits e (call.ListStacks threads max_count) = looks limits e threads max_count

-- whether the agent can pay for a stop and this many reads, after what it has done
abbrev pub can_pay : Limits → EnvNo → List Happening → ThreadNo → ℕ → Bool
can_pay limits e done t reads = nat_le ((dealings limits e t done).spent + (1 + reads)) limits.calls

abbrev pub may_suspend : Limits → EnvNo → List Happening → Bool
may_suspend limits e done = has_all (dealings limits e (record { 0 = 0 }) done).caps (needed_by Suspend)

-- why a call is refused as a whole, after what its agent has done; a call with an answer of its own never is
abbrev pub refused_whole : Limits → EnvNo → List Happening → (wanting : Bool) → AgentCall → Option TiError
refused_whole limits e done wanting (call.SuspendList threads) = or_else (unless (may_suspend limits e done) MustPossessCapability) (unless (not wanting) OutOfMemory)
refused_whole limits e done wanting (call.ResumeList threads) = or_else (unless (may_suspend limits e done) MustPossessCapability) (unless (not wanting) OutOfMemory)
refused_whole limits e done wanting (call.AllStacks max_count) =
    or_else (unless (is_not_negative max_count) IllegalArgument)
    (or_else (unless (list_all (λ t. can_pay limits e done t 1) (every_thread limits)) CallsSpent)
    (unless (not wanting) OutOfMemory))
refused_whole limits e done wanting (call.ListStacks threads max_count) =
    or_else (unless (list_all (λ t. nat_lt t.0 limits.threads) threads) InvalidThread)
    (or_else (unless (is_not_negative max_count) IllegalArgument)
    (or_else (unless (not wanting) OutOfMemory)
    (unless (list_all (λ t. can_pay limits e done t (times t threads)) threads) CallsSpent)))
refused_whole limits e done wanting _ = None

-- whether the reply says that memory ran out
abbrev pub wants : Reply → Bool
wants (Plain (Refused OutOfMemory)) = true
wants _ = false

-- What the agent has done by a call that got this reply, after what it did before. It is nothing if the call was refused as
-- a whole
abbrev pub done_by : Limits → EnvNo → List Happening → AgentCall → Reply → List Happening
done_by limits e done call reply =
    if is_none (refused_whole limits e done (wants reply) call)
    then map (λ x. record { event = x; wanting = wants reply }) (events_of limits e call)
    else []

-- what it has done by these calls
abbrev pub all_done : Limits → EnvNo → List Happening → List AgentCall → List Reply → List Happening
all_done limits e done (call ∷ calls) (reply ∷ replies) = all_done limits e (done ++ done_by limits e done call reply) calls replies
all_done limits e done calls [] = done
all_done limits e done [] (reply ∷ replies) = done
