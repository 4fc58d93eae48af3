-- Handles, and what lies behind them.
use Rattle.std.specs.Prelude.{ℕ, List, Option, Some, None}
use Rattle.ti_types.specs.declared.numbers.ThreadNo.{ThreadNo}
use Rattle.ti_service.specs.Memberships.{AgentValue, TraceValue}
use Rattle.ti_service.specs.Service.{Member}
use Rattle.ti_thread.specs.declared.host_thread.HostThread.{HostThread}
use Rattle.ti_capi.specs.declared.held.Held.{Held}
use Rattle.ti_capi.specs.declared.held.Held.TheVariants as held
use Rattle.ti_capi.specs.declared.held.HeldThread.{HeldThread}
use Rattle.ti_capi.specs.declared.any_door.AnyDoor.{AnyDoor}
use Rattle.ti_capi.specs.declared.held.HeldDoor.{HeldDoor}
use Rattle.ti_capi.specs.declared.held.HeldEnv.{HeldEnv}
use Rattle.ti_capi.specs.declared.held_at.HeldAt.{HeldAt}

pub record Handle : Type 0 where
  pub kind : ℕ
  pub place : HeldAt

-- a box with this in it
abbrev pub holding : HeldAt → Held → HeldAt
holding p x = record { at = p.at; alloc = p.alloc; held = Some x }

abbrev with_held : Handle → Held → Handle
with_held h x = record { kind = h.kind; place = holding h.place x }

-- the handle of the service that is held, and a handle with another one
abbrev pub service_of : Option Held → Option Member
service_of (Some (held.Service m)) = Some m
service_of (Some (held.Thread t)) = None
service_of (Some (held.Env e)) = None
service_of (Some (held.Door d)) = None
service_of (Some (held.Watch w)) = None
service_of None = None

abbrev pub service_in : Handle → Option Member
service_in h = service_of h.place.held

abbrev pub with_service : Handle → Member → Handle
with_service h m = with_held h (held.Service m)

-- the same of a thread
abbrev pub thread_of : Option Held → Option HeldThread
thread_of (Some (held.Service m)) = None
thread_of (Some (held.Thread t)) = Some t
thread_of (Some (held.Env e)) = None
thread_of (Some (held.Door d)) = None
thread_of (Some (held.Watch w)) = None
thread_of None = None

abbrev pub thread_in : Handle → Option HeldThread
thread_in h = thread_of h.place.held

abbrev pub with_held_thread : Handle → HeldThread → Handle
with_held_thread h t = with_held h (held.Thread t)

-- the same of an environment
abbrev pub env_of : Option Held → Option HeldEnv
env_of (Some (held.Service m)) = None
env_of (Some (held.Thread t)) = None
env_of (Some (held.Env e)) = Some e
env_of (Some (held.Door d)) = None
env_of (Some (held.Watch w)) = None
env_of None = None

abbrev pub env_in : Handle → Option HeldEnv
env_in h = env_of h.place.held

abbrev pub with_held_env : Handle → HeldEnv → Handle
with_held_env h e = with_held h (held.Env e)

-- the same of a door with its box, which is empty only while a call works on the door
abbrev pub door_box_of : Option Held → Option HeldDoor
door_box_of (Some (held.Service m)) = None
door_box_of (Some (held.Thread t)) = None
door_box_of (Some (held.Env e)) = None
door_box_of (Some (held.Door d)) = Some d
door_box_of (Some (held.Watch w)) = None
door_box_of None = None

abbrev pub door_box_in : Handle → Option HeldDoor
door_box_in h = door_box_of h.place.held

abbrev pub with_door_box : Handle → HeldDoor → Handle
with_door_box h d = with_held h (held.Door d)

-- the same of a watch, which is seen as the threads that it watches
abbrev pub watch_of : Option Held → Option (List ThreadNo)
watch_of (Some (held.Service m)) = None
watch_of (Some (held.Thread t)) = None
watch_of (Some (held.Env e)) = None
watch_of (Some (held.Door d)) = None
watch_of (Some (held.Watch w)) = Some w
watch_of None = None

abbrev pub watch_in : Handle → Option (List ThreadNo)
watch_in h = watch_of h.place.held

abbrev pub with_watch : Handle → List ThreadNo → Handle
with_watch h w = with_held h (held.Watch w)

-- the door behind a handle
abbrev pub door_in_box : Option HeldDoor → Option AnyDoor
door_in_box (Some h) = h.door
door_in_box None = None

abbrev pub door_of : Option Held → Option AnyDoor
door_of held = door_in_box (door_box_of held)

-- the environment behind a handle
abbrev pub agent_behind : Option HeldEnv → Option AgentValue
agent_behind (Some h) = h.agent
agent_behind None = None

abbrev pub agent_in : Handle → Option AgentValue
agent_in h = agent_behind (env_in h)

-- the same thing behind a handle, with this environment, or with none
abbrev pub env_held_with : HeldEnv → Option AgentValue → HeldEnv
env_held_with h a = record { agent = a; trace = h.trace; stacks = h.stacks }

-- the same with this trace
abbrev pub env_held_tracing : HeldEnv → TraceValue → HeldEnv
env_held_tracing h t = record { agent = h.agent; trace = Some t; stacks = h.stacks }

-- the same thing behind a handle, with another thread
abbrev pub held_with : HeldThread → HostThread → HeldThread
held_with h t = record { service = h.service; thread = Some t; frames = h.frames }
