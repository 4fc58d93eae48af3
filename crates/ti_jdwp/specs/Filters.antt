-- Which events a request is told of.
use Rattle.std.specs.Prelude.{ℕ, ◌-◌, ◌==◌, Bool, false, not, List, [], ◌∷◌, length, take, drop, nat_eq, bytes_eq, if◌then◌else◌}
use Rattle.std.specs.List.{starts_with, ends_with}
use Rattle.ti_jdwp.specs.declared.event.Event.{Event}
use Rattle.ti_jdwp.specs.declared.event.Event.TheVariants as event
use Rattle.ti_jdwp.specs.declared.event.Filter.{Filter}
use Rattle.ti_jdwp.specs.declared.event.Filter.TheVariants as filter
use Rattle.ti_jdwp.specs.declared.request.EventKind.{EventKind}
use Rattle.ti_jdwp.specs.declared.request.EventKind.TheVariants as kind

abbrev pub event_kind : Event → EventKind
event_kind (event.SingleStep s) = kind.SingleStep
event_kind (event.Breakpoint s) = kind.Breakpoint
event_kind (event.ThreadStart thread) = kind.ThreadStart
event_kind (event.ThreadDeath thread) = kind.ThreadDeath
event_kind (event.ClassPrepare thread class signature) = kind.ClassPrepare
event_kind event.VmDeath = kind.VmDeath

-- the thread at which it took place, or 0
abbrev pub event_thread : Event → ℕ
event_thread (event.SingleStep s) = s.thread
event_thread (event.Breakpoint s) = s.thread
event_thread (event.ThreadStart thread) = thread
event_thread (event.ThreadDeath thread) = thread
event_thread (event.ClassPrepare thread class signature) = thread
event_thread event.VmDeath = 0

-- the end of the runtime takes place at no thread
abbrev pub is_event_at : Event → ℕ → Bool
is_event_at (event.SingleStep s) t = s.thread == t
is_event_at (event.Breakpoint s) t = s.thread == t
is_event_at (event.ThreadStart thread) t = thread == t
is_event_at (event.ThreadDeath thread) t = thread == t
is_event_at (event.ClassPrepare thread class signature) t = thread == t
is_event_at event.VmDeath t = false

abbrev pub is_event_of : Event → ℕ → Bool
is_event_of (event.SingleStep s) c = s.class == c
is_event_of (event.Breakpoint s) c = s.class == c
is_event_of (event.ThreadStart thread) c = false
is_event_of (event.ThreadDeath thread) c = false
is_event_of (event.ClassPrepare thread class signature) c = class == c
is_event_of event.VmDeath c = false

abbrev inner : List ℕ → List ℕ
inner signature = drop 1 (take (length signature - 1) signature)

-- a class's name with slashes: its signature without "L" and ";"
abbrev pub event_name : Event → List ℕ
event_name (event.SingleStep s) = inner s.signature
event_name (event.Breakpoint s) = inner s.signature
event_name (event.ThreadStart thread) = []
event_name (event.ThreadDeath thread) = []
event_name (event.ClassPrepare thread class signature) = inner signature
event_name event.VmDeath = []

-- a star, 42, at the beginning or at the end stands for any bytes
abbrev pub is_match : List ℕ → List ℕ → Bool
is_match pattern name =
    if starts_with nat_eq pattern (42 ∷ []) then ends_with nat_eq name (drop 1 pattern)
    else (if ends_with nat_eq pattern (42 ∷ []) then starts_with nat_eq name (take (length pattern - 1) pattern)
    else bytes_eq name pattern)

abbrev pub passes : Event → Filter → Bool
passes e (filter.Thread thread) = is_event_at e thread
passes e (filter.Class class) = is_event_of e class
passes e (filter.Matches pattern) = is_match pattern (event_name e)
passes e (filter.Excludes pattern) = not (is_match pattern (event_name e))

-- a slash for a dot
abbrev pub slashed : ℕ → ℕ
slashed b = if b == 46 then 47 else b
