-- The session of the debugger that is connected.
use Rattle.std.specs.Prelude.{◌≡◌, ℕ, Bool, ◌&&◌, not, is_some, List, [], length, min, take, Option, Some, None}
use Rattle.ti_jdwp.specs.Talks.{Talk, fed, room_in}
use Rattle.ti_debugger.specs.declared.due.Due.{Due}
use Rattle.ti_debugger.specs.declared.seat.Seat.{Seat}
use Rattle.ti_debugger.specs.declared.watched.Watched.{Watched}
use Rattle.ti_debugger.specs.Crowds.{any_open}

abbrev pub session_in : Option Seat → Option Talk
session_in None = None
session_in (Some s) = Some s.session

-- what it waits for
abbrev pub due_in : Option Seat → Option Due
due_in None = None
due_in (Some s) = s.due

abbrev pub room_of : Option Talk → ℕ
room_of None = 0
room_of (Some t) = room_in t

abbrev pub output_of : Option Talk → List ℕ
output_of None = []
output_of (Some t) = t.bytes.output

-- a session became another
abbrev pub Changes : Option Talk → Option Talk → (Talk → Talk → Type 0) → Type 0
Changes old new P = (s : Talk) × (s' : Talk) × (old ≡ Some s) × (new ≡ Some s') × P s s'

-- a session takes bytes, as many as it has room for
abbrev pub Feeds : Talk → Talk → List ℕ → ℕ → Type 0
Feeds s s' bytes n = (n ≡ min (length bytes) (room_in s)) × (s' ≡ fed s (take n bytes))

-- no debugger is connected, and nothing is left to be undone
abbrev pub is_idle : Option Talk → List Watched → Bool
is_idle session list = not (is_some session) && not (any_open list)
