-- One connection of a door.
use Rattle.std.specs.Prelude.{◌≡◌, ℕ, ◌-◌, ◌*◌, ◌^◌, ◌==◌, ◌&&◌, ◌<◌, Bool, true, false, List, [], length, min, Option, Some, None, if◌then◌else◌}
use Rattle.ti_http.specs.declared.connection.Action.{Action}
use Rattle.ti_http.specs.declared.connection.Action.TheVariants as action
use Rattle.ti_http.specs.declared.connection.Phase.{Phase}
use Rattle.ti_http.specs.declared.target.Target.{Target}
use Rattle.ti_http.specs.declared.target.Target.TheVariants as target
use Rattle.ti_http.specs.Runs.{Call, Runs, is_shut, is_waiting, state_of}
use Rattle.ti_http.specs.Talks.{Talk, deadline_of, room_in}
use Rattle.ti_monitor.specs.declared.door_desk.Due.{Due}
use Rattle.ti_monitor.specs.declared.door_desk.Due.TheVariants as due
use Rattle.ti_monitor.specs.declared.door_seat.Todo.{Todo}
use Rattle.ti_monitor.specs.declared.door_seat.Todo.TheVariants as todo
use Rattle.ti_monitor.specs.declared.monitor.ReadingNo.{ReadingNo}

-- a request waits for its answer
abbrev pub waits : Talk → Bool
waits t = is_waiting (state_of t.phase)

-- something is due
abbrev pub is_due : Option Due → Bool
is_due None = false
is_due (Some d) = true

-- nothing is to be written while a request waits, nor after a close
abbrev pub QuietIn : Phase → List ℕ → Type 0
QuietIn p output = (is_waiting (state_of p) ≡ true → output ≡ []) × (is_shut (state_of p) ≡ true → output ≡ [])

-- Calls at a connection lead from one state to the other. `runs_follow_the_protocol` and `runs_send_answers` of `ti_http` say
-- what such calls are.
abbrev pub RunsTo : Talk → Talk → Type 0
RunsTo old new = (calls : List Call) × Runs old calls new

-- the seconds after which the client is to try again, if that is due
abbrev pub seconds_of : Option Due → Option ℕ
seconds_of None = None
seconds_of (Some (due.Reading request reading)) = None
seconds_of (Some (due.Later request seconds)) = Some seconds

-- the same request is to be told to try again after a second
abbrev pub postponed : Option Due → Option Due
postponed None = None
postponed (Some (due.Reading request reading)) = Some (due.Later request 1)
postponed (Some (due.Later request seconds)) = Some (due.Later request 1)

-- the reading that a request waits for, if it goes on for some seconds
abbrev pub profile_in : ReadingNo → Target → Option ReadingNo
profile_in reading target.Index = None
profile_in reading target.Metrics = None
profile_in reading target.Threads = None
profile_in reading target.ThreadsJson = None
profile_in reading (target.ThreadsProfile d) = None
profile_in reading (target.Profile seconds rate labels) = Some reading

abbrev pub profile_of : Option Due → Option ReadingNo
profile_of None = None
profile_of (Some (due.Reading request reading)) = profile_in reading request.target
profile_of (Some (due.Later request seconds)) = None

-- no request waits, no part of one came, and nothing is to be written
abbrev pub is_idle : Talk → Bool
is_idle t = ((t.asked == t.answered) && (room_in t == 8192)) && (length t.output == 0)

abbrev pub idle_until : Talk → Option ℕ
idle_until t = if is_idle t then deadline_of t else None

-- milliseconds as nanoseconds, 2^64 - 1 at most
abbrev pub in_nanos : Option ℕ → Option ℕ
in_nanos None = None
in_nanos (Some millis) = Some (min (millis * 1000000) (2 ^ 64 - 1))

-- a request is handed out
abbrev pub asks_one : Action → Bool
asks_one (action.Ask request) = true
asks_one action.Write = false
asks_one action.Close = false
asks_one action.Wait = false

-- what a caller is told to do
abbrev pub Says : Talk → Todo → Type 0
Says t todo.Write = 0 < length t.output
Says t todo.Close = (t.output ≡ []) × (is_shut (state_of t.phase) ≡ true)
Says t todo.Wait = t.output ≡ []
