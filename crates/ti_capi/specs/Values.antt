-- What C reads of the service's values, and what the service reads of C's.
use Rattle.std.specs.Prelude.{ℕ, ℤ, pos, negsuc, ◌^◌, ◌&&◌, int_le, int_lt, Bool, List, [], ◌∷◌, ◌++◌, take, drop, length, Option, slice_get}
use Rattle.std.specs.List.{list_all}
use Rattle.ti_types.specs.declared.event.Ticket.{Ticket}
use Rattle.ti_types.specs.declared.place.Frame.{Frame}
use Rattle.ti_types.specs.declared.place.Place.{Place}
use Rattle.ti_types.specs.declared.place.Place.TheVariants.{Java, Native}
use Rattle.ti_types.specs.declared.stack.StackInfo.{StackInfo}
use Rattle.ti_types.specs.declared.state.Kind.{Kind}
use Rattle.ti_types.specs.declared.state.Kind.TheVariants as kind
use Rattle.ti_roster.specs.declared.life_event.LifeKind.{LifeKind}
use Rattle.ti_roster.specs.declared.life_event.LifeKind.TheVariants as life
use Rattle.ti_service.specs.declared.event.Event.{Event}
use Rattle.ti_service.specs.declared.event.Event.TheVariants as event
use Rattle.ti_service.specs.declared.event.EventKind.{EventKind}
use Rattle.ti_service.specs.declared.event.EventKind.TheVariants as kinds
use Rattle.ti_service.specs.declared.event.NextEvent.{NextEvent}
use Rattle.ti_capi.specs.declared.values.CqFrame.{CqFrame}
use Rattle.ti_capi.specs.declared.values.CqTicket.{CqTicket}
use Rattle.ti_capi.specs.declared.values.CqEvent.{CqEvent}
use Rattle.ti_capi.specs.declared.values.CqStackInfo.{CqStackInfo}

-- a location: that of a native frame is -1
abbrev pub location_of : Place → ℤ
location_of (Java at) = pos at
location_of Native = negsuc 0

abbrev pub frame_written : Frame → CqFrame
frame_written f = record { method = f.method.0; location = location_of f.place }

-- as many of these as there is room for, before what was there
abbrev pub over : {X : Type 0} → List X → List X → List X
over new old = take (length old) new ++ drop (length new) old

-- whether it is a frame: its location is -1, or from 0 to 2^32 - 1
abbrev pub is_frame : CqFrame → Bool
is_frame f = int_le (negsuc 0) f.location && int_lt f.location (pos (2 ^ 32))

abbrev pub place_of : ℤ → Place
place_of (pos at) = Java at
place_of (negsuc n) = Native

abbrev pub frame_of : CqFrame → Frame
frame_of f = record { method = record { 0 = f.method }; place = place_of f.location }

abbrev pub are_frames : List CqFrame → Bool
are_frames frames = list_all is_frame frames

abbrev pub ticket_written : Ticket → CqTicket
ticket_written k = record { env = k.env.0; thread = k.thread.0; no = k.no }

abbrev pub ticket_read : CqTicket → Ticket
ticket_read k = record { env = record { 0 = k.env }; thread = record { 0 = k.thread }; no = k.no }

abbrev pub life_kind_written : LifeKind → ℕ
life_kind_written life.ThreadStart = 0
life_kind_written life.ThreadEnd = 1
life_kind_written life.ThreadAttached = 3
life_kind_written life.ThreadDetached = 4

abbrev pub event_kind_read : ℕ → Option EventKind
event_kind_read n = slice_get (kinds.ThreadStart ∷ kinds.ThreadEnd ∷ kinds.ClassPrepare ∷ kinds.ThreadAttached ∷ kinds.ThreadDetached ∷ []) n

abbrev pub event_of : ℕ → Event → CqEvent
event_of lost (event.Life l) = record { kind = life_kind_written l.kind; number = l.thread.0; lost = lost }
event_of lost (event.ClassPrepare c) = record { kind = 2; number = c.0; lost = lost }

abbrev pub event_written : NextEvent → CqEvent
event_written n = event_of n.lost n.event

-- a thread, its state, and how many frames were read
abbrev pub stack_written : StackInfo → CqStackInfo
stack_written x = record { thread = x.thread.0; state = x.state; frame_count = length x.frames.frames }

-- the reasons to block, by number
abbrev pub reasons : List Kind
reasons = kind.MonitorEnter ∷ kind.ObjectWait ∷ kind.TimedWait ∷ kind.Sleep ∷ kind.Park ∷ kind.TimedPark ∷ []

abbrev pub reason_read : ℕ → Option Kind
reason_read n = slice_get reasons n
