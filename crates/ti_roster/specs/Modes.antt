-- Which events of threads' lives an agent is told.
use Rattle.std.specs.Prelude.{ℕ, suc, ◌+◌, ◌==◌, nat_lt, nat_le, Bool, false, if◌then◌else◌, List, [], ◌∷◌, length, drop, Option, Some, None}
use Rattle.ti_roster.specs.declared.life_event.LifeAt.{LifeAt}
use Rattle.ti_roster.specs.declared.life_event.LifeEvent.{LifeEvent}
use Rattle.ti_roster.specs.declared.life_event.LifeKind.{LifeKind}
use Rattle.ti_roster.specs.declared.life_event.LifeKind.TheVariants.{ThreadAttached, ThreadStart, ThreadEnd, ThreadDetached}
use Rattle.ti_roster.specs.declared.life_event.ToldLife.{ToldLife}
use Rattle.ti_roster.specs.declared.life_modes.LifeModes.{LifeModes}
use Rattle.ti_roster.specs.Events.{lost_from}

-- all kinds are disabled
abbrev pub no_modes : LifeModes
no_modes = record { next = 0; attached = None; start = None; end = None; detached = None }

-- the index from which on events of a kind are told
abbrev pub since : LifeModes → LifeKind → Option ℕ
since m ThreadAttached = m.attached
since m ThreadStart = m.start
since m ThreadEnd = m.end
since m ThreadDetached = m.detached

abbrev pub with_since : LifeModes → LifeKind → Option ℕ → LifeModes
with_since m ThreadAttached i = record { next = m.next; attached = i; start = m.start; end = m.end; detached = m.detached }
with_since m ThreadStart i = record { next = m.next; attached = m.attached; start = i; end = m.end; detached = m.detached }
with_since m ThreadEnd i = record { next = m.next; attached = m.attached; start = m.start; end = i; detached = m.detached }
with_since m ThreadDetached i = record { next = m.next; attached = m.attached; start = m.start; end = m.end; detached = i }

abbrev pub with_next : LifeModes → ℕ → LifeModes
with_next m n = record { next = n; attached = m.attached; start = m.start; end = m.end; detached = m.detached }

-- the first index from which on events of any kind are told
abbrev pub earlier_of : Option ℕ → Option ℕ → Option ℕ
earlier_of (Some a) (Some b) = Some (if nat_lt b a then b else a)
earlier_of (Some a) None = Some a
earlier_of None b = b

abbrev pub not_before : ℕ → Option ℕ → Option ℕ
not_before n (Some i) = Some (if nat_lt i n then n else i)
not_before n None = None

-- the index from which on the agent looks for events, if it is told any
abbrev pub first_index : LifeModes → Option ℕ
first_index m = not_before m.next (earlier_of (earlier_of m.attached m.start) (earlier_of m.end m.detached))

-- an event with this index is told: its kind is enabled, and it happened since
abbrev pub is_since : Option ℕ → ℕ → Bool
is_since (Some s) i = nat_le s i
is_since None i = false

abbrev pub tells : LifeModes → ℕ → LifeEvent → Bool
tells m i e = is_since (since m e.kind) i

-- the first of these events that is told, with its index. The first of these has the index i
abbrev pub seek : LifeModes → ℕ → List LifeEvent → Option LifeAt
seek m i [] = None
seek m i (e ∷ l) = if tells m i e then Some (record { index = i; event = e }) else seek m (suc i) l

-- The agent is told this event, and looks behind it next. Or it is told none: then it looks behind all that has happened next,
-- unless events were lost, which are still to be counted
abbrev pub told_at : LifeModes → ℕ → ℕ → Option LifeAt → ToldLife
told_at m count lost (Some at) = record { told = Some (record { event = at.event; lost = lost }); next = suc at.index }
told_at m count lost None = record { told = None; next = if lost == 0 then count else m.next }

abbrev pub told_from : List LifeEvent → LifeModes → Option ℕ → ToldLife
told_from life m (Some from) = told_at m (length life) (lost_from life from) (seek m (from + lost_from life from) (drop (from + lost_from life from) life))
told_from life m None = record { told = None; next = m.next }

-- what an agent is told of these events: the first that is kept, and is not before the index from which on it looks
abbrev pub told_of : List LifeEvent → LifeModes → ToldLife
told_of life m = told_from life m (first_index m)
