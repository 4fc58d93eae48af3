-- What a core refines for: the events that have happened in it.
use Rattle.std.specs.Prelude.{ℕ, ◌≡◌, true, false, ◌<◌, List, [], ◌∷◌, ◌++◌, length, slice_index}
use Rattle.ti_types.specs.declared.limits.Limits.{Limits}
use Rattle.ti_types.specs.declared.numbers.EnvNo.{EnvNo}
use Rattle.ti_types.specs.declared.numbers.ThreadNo.{ThreadNo}
use Rattle.ti_types.specs.declared.entry.Entry.{Entry}
use Rattle.ti_types.specs.declared.event.Ticket.{Ticket}
use Rattle.ti_replay.specs.Answers.{is_running}
use Rattle.ti_replay.specs.Legal.{asked_by}
use Rattle.ti_replay.specs.View.{view}
use Rattle.ti_replay.specs.Admission.{Happening, dealings}
use Rattle.ti_replay.specs.Events.{history_of}
use Rattle.ti_replay.specs.Outcomes.{out_of, env_word}
use Rattle.ti_replay.specs.LateTickets.{AreAlike}
use Rattle.ti_slot.specs.Tickets.{has, AreOnce}
use Rattle.ti_env.specs.Env.{EnvValue}
use Rattle.ti_core.specs.Thread.{ThreadState, entries, new_state}
use Rattle.ti_core.specs.Core.{CoreState, thread_at, env_at, core_next, core_told}

-- A thread of a core whose history is this one. What lies in its slot, with the logged steps after it, leaves the same state
-- and replies the same to each ticket
pub record ThreadRefines (limits : Limits) (t : ThreadNo) (history : List Entry) (s : ThreadState) : Type 0 where
  pub limits_are : s.thread.limits ≡ limits
  pub number_is : s.thread.number ≡ t
  pub alike : AreAlike limits history (entries s)
  pub rests : is_running (view limits history).mode ≡ false → s.steps ≡ []
  pub once : AreOnce s.thread.uncollected
  pub known : (k : Ticket) → has k s.thread.uncollected ≡ true → k.no < asked_by k.env s.thread.history

-- an environment of a core in which these have happened
pub record EnvRefines (limits : Limits) (e : EnvNo) (events : List Happening) (s : EnvValue) : Type 0 where
  pub caps : (t : ThreadNo) → s.caps ≡ (dealings limits e t events).caps
  pub spent : (t : ThreadNo) → t.0 < limits.threads → slice_index s.spent t.0 ≡ (dealings limits e t events).spent
  pub spent_count : length s.spent ≡ limits.threads
  pub calls : s.limits.calls ≡ limits.calls
  pub word : s.word ≡ env_word e events

-- a core in which these have happened
pub record Refines (events : List Happening) (s : CoreState) : Type 0 where
  pub thread_count : length s.threads ≡ s.limits.threads
  pub env_count : length s.envs ≡ s.limits.envs
  pub threads : (t : ThreadNo) → t.0 < s.limits.threads → ThreadRefines s.limits t (history_of s.limits t events) (thread_at s.limits s.threads t)
  pub envs : (e : EnvNo) → e.0 < s.limits.envs → EnvRefines s.limits e events (env_at s.envs e)

-- some events have happened in it
abbrev pub IsReached : CoreState → Type 0
IsReached s = (events : List Happening) × Refines events s

-- From a core that refines for some events, an event leads to one that refines for these and it. Its outcome is what the
-- definitions say
pub record IsNext (events : List Happening) (s : CoreState) (h : Happening) : Type 0 where
  pub refines : Refines (events ++ h ∷ []) (core_next s h)
  pub told : core_told s h ≡ out_of s.limits (events ++ h ∷ []) events h

-- this many threads that have not started, each with its number
pub record AreNew (limits : Limits) (count : ℕ) (threads : List ThreadState) : Type 0 where
  pub count_is : length threads ≡ count
  pub each : (t : ThreadNo) → t.0 < count → thread_at limits threads t ≡ new_state limits t
