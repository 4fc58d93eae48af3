-- The threads that were met.
use Rattle.std.specs.Prelude.{ℕ, ◌+◌, ◌-◌, ◌&&◌, ◌||◌, ◌==◌, Bool, false, not, is_some, List, [], ◌∷◌, Option, Some, None, max, min, slice_get, if◌then◌else◌}
use Rattle.ti_http.specs.declared.target.Labels.{Labels}
use Rattle.ti_monitor.specs.declared.label.Label.{Label}
use Rattle.ti_monitor.specs.declared.watched.Out.{Out}
use Rattle.ti_monitor.specs.declared.watched.Watched.{Watched}
use Rattle.ti_monitor.specs.Labels.{label, label_only}

-- the place of a thread's state among the names of states
abbrev pub named_state : Watched → ℕ
named_state w = w.state + (if w.suspended then 9 else 0)

-- what the samples of the thread at a place are counted under
abbrev pub label_for : Option Watched → Labels → ℕ → Label
label_for None kept place = label 4294967295 4294967295
label_for (Some w) kept place = label_only kept (label (min place 4294967295) (named_state w))

abbrev pub label_at : List Watched → Labels → ℕ → Label
label_at watched kept place = label_for (slice_get watched place) kept place

-- the thread is there, and was last seen in the state of this place
abbrev pub is_in_state : ℕ → Watched → Bool
is_in_state place w = not w.gone && (w.state == place)

-- the thread is there, and was last seen suspended
abbrev pub is_held : Watched → Bool
is_held w = not w.gone && w.suspended

-- it has ended, or was let go of
abbrev pub is_done : Watched → Bool
is_done w = (w.state == 8) || w.gone

-- a call of the monitor is out at it
abbrev pub has_call : Watched → Bool
has_call w = is_some w.out

-- how long a call has been out, and 0 if there is none
abbrev pub age_of : ℕ → Option Out → ℕ
age_of now None = 0
age_of now (Some out) = now - out.since

-- how long the oldest call that is out at one of these threads has been, and 0 if there is none
abbrev pub oldest_call : ℕ → List Watched → ℕ
oldest_call now [] = 0
oldest_call now (w ∷ watched) = max (age_of now w.out) (oldest_call now watched)

-- no call of the monitor is out at the thread at a place, which is there
abbrev pub is_free_one : Option Watched → Bool
is_free_one None = false
is_free_one (Some w) = not (has_call w)

abbrev pub is_free : List Watched → ℕ → Bool
is_free watched place = is_free_one (slice_get watched place)
