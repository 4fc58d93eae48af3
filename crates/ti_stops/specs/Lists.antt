-- What environments asked for, and who waits for them.
use Rattle.std.specs.Prelude.{ℕ, ◌-◌, ◌==◌, ◌&&◌, nat_le, nat_lt, not, Bool, true, false, if◌then◌else◌, List, [], ◌∷◌, Option, Some, None}
use Rattle.ti_types.specs.declared.numbers.EnvNo.{EnvNo}
use Rattle.ti_types.specs.declared.numbers.MethodNo.{MethodNo}
use Rattle.ti_types.specs.declared.numbers.ThreadNo.{ThreadNo}
use Rattle.ti_types.specs.declared.place.Frame.{Frame}
use Rattle.ti_types.specs.declared.place.Place.{Place}
use Rattle.ti_types.specs.declared.place.Place.TheVariants.{Java, Native}
use Rattle.ti_stops.specs.declared.kind.StopKind.{StopKind}
use Rattle.ti_stops.specs.declared.lists.Breakpoint.{Breakpoint}
use Rattle.ti_stops.specs.declared.lists.Mode.{Mode}
use Rattle.ti_stops.specs.declared.lists.Pop.{Pop}
use Rattle.ti_stops.specs.declared.lists.Waiting.{Waiting}
use Rattle.ti_stops.specs.declared.stop.Stop.{Stop}
use Rattle.ti_stops.specs.Kinds.{kind_number}

abbrev pub is_same_place : Place → Place → Bool
is_same_place (Java p) (Java q) = p == q
is_same_place (Java p) Native = false
is_same_place Native (Java q) = false
is_same_place Native Native = true

-- the same method, and the same place in it
abbrev pub is_same_frame : Frame → Frame → Bool
is_same_frame a b = a.method.0 == b.method.0 && is_same_place a.place b.place

abbrev pub is_same_target : Option ThreadNo → Option ThreadNo → Bool
is_same_target (Some t) (Some u) = t.0 == u.0
is_same_target (Some t) None = false
is_same_target None (Some u) = false
is_same_target None None = true

-- whether one thread or all are meant, and this thread is among them
abbrev pub covers : Option ThreadNo → ThreadNo → Bool
covers (Some t) u = t.0 == u.0
covers None u = true

-- whether exactly this thread is meant
abbrev pub is_target : ThreadNo → Option ThreadNo → Bool
is_target t (Some u) = u.0 == t.0
is_target t None = false

abbrev pub is_env : EnvNo → EnvNo → Bool
is_env e f = f.0 == e.0

-- the environment's mode of this kind, at exactly this thread, or at all
abbrev pub is_mode : EnvNo → StopKind → Option ThreadNo → Mode → Bool
is_mode e kind t m = m.env.0 == e.0 && kind_number m.kind == kind_number kind && is_same_target m.thread t

-- a mode by which the environment hears of this kind of event at a thread
abbrev pub is_heard : EnvNo → StopKind → ThreadNo → Mode → Bool
is_heard e kind t m = m.env.0 == e.0 && kind_number m.kind == kind_number kind && covers m.thread t

abbrev pub is_mode_at : ThreadNo → Mode → Bool
is_mode_at t m = is_target t m.thread

abbrev pub is_mode_of : EnvNo → Mode → Bool
is_mode_of e m = m.env.0 == e.0

abbrev pub is_breakpoint : EnvNo → Frame → Breakpoint → Bool
is_breakpoint e at b = b.env.0 == e.0 && is_same_frame b.at at

-- one of so many methods, from this one on
abbrev pub is_among : MethodNo → ℕ → MethodNo → Bool
is_among first n m = nat_le first.0 m.0 && nat_lt (m.0 - first.0) n

-- a breakpoint of the environment in one of these
abbrev pub is_breakpoint_in : EnvNo → MethodNo → ℕ → Breakpoint → Bool
is_breakpoint_in e first n b = b.env.0 == e.0 && is_among first n b.at.method

abbrev pub is_breakpoint_of : EnvNo → Breakpoint → Bool
is_breakpoint_of e b = b.env.0 == e.0

abbrev pub is_pop : EnvNo → ThreadNo → ℕ → Pop → Bool
is_pop e t n p = p.env.0 == e.0 && p.thread.0 == t.0 && p.frames == n

-- The frame that the environment asked about is this newest one of a thread that has so many frames, or is above it
abbrev pub is_left : ThreadNo → ℕ → Pop → Bool
is_left t n p = p.thread.0 == t.0 && nat_le n p.frames

abbrev pub is_popped : EnvNo → ThreadNo → ℕ → Pop → Bool
is_popped e t n p = p.env.0 == e.0 && is_left t n p

abbrev pub is_own_pop_at : EnvNo → ThreadNo → Pop → Bool
is_own_pop_at e t p = p.env.0 == e.0 && p.thread.0 == t.0

abbrev pub is_pop_at : ThreadNo → Pop → Bool
is_pop_at t p = p.thread.0 == t.0

abbrev pub is_pop_of : EnvNo → Pop → Bool
is_pop_of e p = p.env.0 == e.0

abbrev pub waits_at : ThreadNo → Waiting → Bool
waits_at t w = w.stop.thread.0 == t.0

abbrev pub waits_for : EnvNo → Waiting → Bool
waits_for e w = w.env.0 == e.0

-- a stop that the environment was not told of
abbrev pub is_untold : EnvNo → Waiting → Bool
is_untold e w = w.env.0 == e.0 && not w.told

-- a stop of a thread that the environment was told of
abbrev pub is_told_at : EnvNo → ThreadNo → Waiting → Bool
is_told_at e t w = w.env.0 == e.0 && w.stop.thread.0 == t.0 && w.told

-- the stop that has waited longest for an environment that was not told of it
abbrev pub next_stop : EnvNo → List Waiting → Option Stop
next_stop e [] = None
next_stop e (w ∷ ws) = if is_untold e w then Some w.stop else next_stop e ws

-- the environment was told of that one
abbrev pub next_told : EnvNo → List Waiting → List Waiting
next_told e [] = []
next_told e (w ∷ ws) = if is_untold e w then record { env = w.env; stop = w.stop; told = true } ∷ ws else w ∷ next_told e ws
