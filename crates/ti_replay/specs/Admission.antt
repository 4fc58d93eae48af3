-- Which calls of an agent reach the thread.
use Rattle.std.specs.Prelude.{ℕ, ◌+◌, Bool, true, false, ◌&&◌, if◌then◌else◌, ◌==◌, nat_lt, List, Option, Some, None, is_none}
use Rattle.std.specs.List.{fold}
use Rattle.ti_types.specs.declared.limits.Limits.{Limits}
use Rattle.ti_types.specs.declared.numbers.EnvNo.{EnvNo}
use Rattle.ti_types.specs.declared.numbers.ThreadNo.{ThreadNo}
use Rattle.ti_types.specs.declared.caps.Caps.{Caps}
use Rattle.ti_types.specs.declared.call.Call.{Call}
use Rattle.ti_types.specs.declared.call.Call.TheVariants as call
use Rattle.ti_types.specs.declared.error.TiError.{TiError}
use Rattle.ti_types.specs.declared.event.Event.{Event}
use Rattle.ti_types.specs.declared.event.Event.TheVariants.{Start, Own, Poll, ToNative, ToBlocked, Back, End, Ask, Stop, Read, Go, AddCaps, Relinquish, GetCaps, SetEnvWord, GetEnvWord}
use Rattle.ti_types.specs.Admitting.{admitting_refusal, asking_refusal, stopping_refusal, reading_refusal, going_refusal}
use Rattle.ti_types.specs.Caps.{no_caps, caps_with, caps_without}
pub use Rattle.ti_types.specs.Caps.{has_all, can_be_had}

-- an event, and whether memory ran out for the buffer of its answer
pub record Happening : Type 0 where
  pub event : Event
  pub wanting : Bool

-- an environment's capabilities, and what it has spent at one thread
pub record Dealings : Type 0 where
  pub caps : Caps
  pub spent : ℕ

-- the environment of an agent's event. A thread's own event has none
abbrev pub agent_of : Event → Option EnvNo
agent_of (Ask e t call) = Some e
agent_of (Stop e t) = Some e
agent_of (Read e t max_count) = Some e
agent_of (Go e t) = Some e
agent_of (AddCaps e caps) = Some e
agent_of (Relinquish e caps) = Some e
agent_of (GetCaps e) = Some e
agent_of (SetEnvWord e word) = Some e
agent_of (GetEnvWord e) = Some e
agent_of _ = None

-- whether the event is an agent's call at a thread
abbrev pub is_aimed_at : ThreadNo → Event → Bool
is_aimed_at thread (Ask e t call) = t.0 == thread.0
is_aimed_at thread (Stop e t) = t.0 == thread.0
is_aimed_at thread (Read e t max_count) = t.0 == thread.0
is_aimed_at thread (Go e t) = t.0 == thread.0
is_aimed_at thread _ = false

-- whether the event is the thread's own
abbrev pub is_own_of : ThreadNo → Event → Bool
is_own_of thread (Start t) = t.0 == thread.0
is_own_of thread (Own t step) = t.0 == thread.0
is_own_of thread (Poll t) = t.0 == thread.0
is_own_of thread (ToNative t) = t.0 == thread.0
is_own_of thread (ToBlocked t kind) = t.0 == thread.0
is_own_of thread (Back t) = t.0 == thread.0
is_own_of thread (End t) = t.0 == thread.0
is_own_of thread _ = false

-- whether the event asks for or changes capabilities
abbrev pub is_about_caps : Event → Bool
is_about_caps (AddCaps e caps) = true
is_about_caps (Relinquish e caps) = true
is_about_caps (GetCaps e) = true
is_about_caps _ = false

abbrev pub is_env : EnvNo → Option EnvNo → Bool
is_env env (Some other) = other.0 == env.0
is_env env None = false

abbrev pub is_by : EnvNo → Event → Bool
is_by env event = is_env env (agent_of event)

-- whether the call costs one of the environment's calls at the thread
abbrev pub is_paid : Event → Bool
is_paid (Ask e t call) = true
is_paid (Stop e t) = true
is_paid (Read e t max_count) = true
is_paid _ = false

abbrev pub takes_buffer : Call → Bool
takes_buffer (call.Trace start max_count) = true
takes_buffer _ = false

-- why a call does not reach its thread
abbrev pub refusal_of : Limits → Dealings → Bool → Event → Option TiError
refusal_of limits d wanting (Ask e t call) =
    admitting_refusal (nat_lt e.0 limits.envs) (asking_refusal d.caps (nat_lt t.0 limits.threads) d.spent limits.calls call) (wanting && takes_buffer call)
refusal_of limits d wanting (Stop e t) =
    admitting_refusal (nat_lt e.0 limits.envs) (stopping_refusal (nat_lt t.0 limits.threads) d.spent limits.calls) false
refusal_of limits d wanting (Read e t max_count) =
    admitting_refusal (nat_lt e.0 limits.envs) (reading_refusal (nat_lt t.0 limits.threads) d.spent limits.calls max_count) wanting
refusal_of limits d wanting (Go e t) =
    admitting_refusal (nat_lt e.0 limits.envs) (going_refusal (nat_lt t.0 limits.threads)) false
refusal_of limits d wanting _ = None

abbrev pub refusal : Limits → Dealings → Happening → Option TiError
refusal limits d h = refusal_of limits d h.wanting h.event

-- the capabilities of an environment after an event
abbrev pub caps_after : EnvNo → Caps → Event → Caps
caps_after env held (AddCaps e caps) =
    if e.0 == env.0 && can_be_had caps then caps_with held caps else held
caps_after env held (Relinquish e caps) =
    if e.0 == env.0 then caps_without held caps else held
caps_after env held _ = held

-- the capabilities that an environment has
abbrev pub caps_of : EnvNo → List Happening → Caps
caps_of env events = fold (λ held h. caps_after env held h.event) no_caps events

-- an admitted call that is paid for
abbrev pub spends : Limits → EnvNo → ThreadNo → Dealings → Happening → Bool
spends limits env thread d h =
    is_aimed_at thread h.event && is_by env h.event && is_paid h.event && is_none (refusal limits d h)

abbrev pub dealt : Limits → EnvNo → ThreadNo → Dealings → Happening → Dealings
dealt limits env thread d h =
    record {
      caps = caps_after env d.caps h.event;
      spent = if spends limits env thread d h then d.spent + 1 else d.spent;
    }

-- the dealings of an environment for which nothing has happened
abbrev pub no_dealings : Dealings
no_dealings = record { caps = no_caps; spent = 0 }

abbrev pub dealings : Limits → EnvNo → ThreadNo → List Happening → Dealings
dealings limits env thread events = fold (dealt limits env thread) no_dealings events

-- the dealings of an event's environment at one thread, or no dealings if the event has no environment
abbrev pub dealings_by : Limits → Option EnvNo → ThreadNo → List Happening → Dealings
dealings_by limits (Some env) thread events = dealings limits env thread events
dealings_by limits None thread events = no_dealings
