-- What a call leaves of a desk, and what contracts see of it.
use Rattle.std.specs.Prelude.{ℕ, ◌≡◌, List}
use Rattle.std.specs.String.{string_bytes}
use Rattle.ti_monitor.specs.declared.door_desk.Desk.{Desk}
use Rattle.ti_monitor.specs.declared.monitor.Monitor.{Monitor}
use Rattle.ti_monitor.specs.declared.door_seat.Seat.{Seat}
use Rattle.ti_monitor.specs.Serving.{Books, IsAnswer, Leaves, Response, Serves, Setting, Sitting, setting, sitting}

-- what is told of the program stays
pub record Keeps (old new : Desk) : Type 0 where
  pub program : new.monitor.program ≡ old.monitor.program
  pub version : new.version ≡ old.version

abbrev pub books_with : Monitor → List (ℕ × ℕ) → Books
books_with m rows = record { readings = m.readings.running.items; begun = m.begun; metrics = m.metrics; rows = rows }

abbrev pub books_of : Desk → Books
books_of d = books_with d.monitor d.tally.rows

-- what the desk tells while so many connections are open
abbrev pub setting_of : Desk → ℕ → Setting
setting_of d connections = setting (string_bytes d.monitor.program) (string_bytes d.version) connections

abbrev pub at_seat : Seat → Desk → Sitting
at_seat s d = sitting s.connection s.due (books_of d)

-- a connection was served, while so many are open
abbrev pub ServesWith : ℕ → Seat → Desk → Seat → Desk → Type 0
ServesWith connections s d s' d' = Serves (setting_of d connections) (at_seat s d) (at_seat s' d')

-- the same, however many are open
abbrev pub SeatServes : Seat → Desk → Seat → Desk → Type 0
SeatServes s d s' d' = (connections : ℕ) → ServesWith connections s d s' d'

-- a connection was served with this response, if that answers its request, and if the books became those of the desk by what was taken for it
abbrev pub Gives : Response → Seat → Desk → Seat → Desk → Type 0
Gives r s d s' d' = (connections : ℕ) (b : Books) → IsAnswer (setting_of d connections) b s.due r → Leaves s.due b (books_of d)
    → Serves (setting_of d connections) (sitting s.connection s.due b) (at_seat s' d')
