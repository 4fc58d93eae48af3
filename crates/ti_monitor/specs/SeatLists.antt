-- The connections and the desk of a door, and what contracts see of them.
use Rattle.std.specs.Prelude.{ℕ, List, length, map, nat_lt, slice_get, slice_set, Option, Some, None, if◌then◌else◌}
use Rattle.std.specs.String.{string_bytes}
use Rattle.ti_http.specs.declared.hosts.Hosts.{Hosts}
use Rattle.ti_http.specs.Talks.{Talk}
use Rattle.ti_monitor.specs.declared.door_desk.Desk.{Desk}
use Rattle.ti_monitor.specs.declared.door_desk.Due.{Due}
use Rattle.ti_monitor.specs.declared.door_seat.Seat.{Seat}
use Rattle.ti_monitor.specs.Keeping.{Kept, kept}
use Rattle.ti_monitor.specs.Doors.{DoorValue, door_with}

-- the connection of this number, if it is open
abbrev pub seat_in : Option (Option Seat) → Option Seat
seat_in None = None
seat_in (Some s) = s

abbrev pub seat_at : List (Option Seat) → ℕ → Option Seat
seat_at seats conn = seat_in (slice_get seats conn)

-- the connections without the one of this number
abbrev pub without : List (Option Seat) → ℕ → List (Option Seat)
without seats conn = if nat_lt conn (length seats) then slice_set seats conn None else seats

-- what contracts see of a connection
abbrev pub talk_of : Option Seat → Option Talk
talk_of None = None
talk_of (Some s) = Some s.connection

-- what its request waits for
abbrev pub due_of : Option Seat → Option Due
due_of None = None
due_of (Some s) = s.due

-- what is seen of the books
abbrev pub kept_of : Desk → Kept
kept_of d = kept d.monitor.metrics d.tally.rows

abbrev pub door_of : Hosts → List (Option Seat) → Desk → DoorValue
door_of hosts seats desk =
    door_with hosts (map talk_of seats) (string_bytes desk.monitor.program) (string_bytes desk.version) desk.monitor.agent (map due_of seats) (kept_of desk)
