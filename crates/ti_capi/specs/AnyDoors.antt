-- Doors of either kind, as C uses them.
use Rattle.std.specs.Prelude.{ℕ, ◌≡◌, ◌≤◌, ◌==◌, ◌/◌, ◌⊎◌, ⊤, Bool, true, false, List, [], is_some, if◌then◌else◌, Option, None, Some, Result, Ok, Err}
use Rattle.ti_http.specs.Talks.{Talk, written_from}
use Rattle.ti_types.specs.declared.error.TiError.{TiError}
use Rattle.ti_types.specs.declared.error.TiError.TheVariants.{Busy}
use Rattle.ti_monitor.specs.declared.door_error.DoorError.{DoorError}
use Rattle.ti_monitor.specs.declared.door_error.DoorError.TheVariants.{Full, NoConnection, OutOfMemory}
use Rattle.ti_monitor.specs.declared.door_seat.Todo.{Todo as HttpTodo}
use Rattle.ti_monitor.specs.declared.door_seat.Todo.TheVariants as http_todo
use Rattle.ti_monitor.specs.Doors as http
use Rattle.ti_monitor.specs.Seats as http_seats
use Rattle.ti_jdwp.specs.Lines.{with_written}
use Rattle.ti_jdwp.specs.Talks as debugger_talks
use Rattle.ti_debugger.specs.declared.debugger_error.DebuggerError.{DebuggerError}
use Rattle.ti_debugger.specs.declared.debugger_error.DebuggerError.TheVariants as debugger_error
use Rattle.ti_debugger.specs.declared.seat.Todo.{Todo}
use Rattle.ti_debugger.specs.declared.seat.Todo.TheVariants as todo
use Rattle.ti_debugger.specs.Crowds.{NoneHeld, alive_in, first}
use Rattle.ti_debugger.specs.Debuggers.{DebuggerValue, Works}
use Rattle.ti_debugger.specs.Told.{ToldBy}
use Rattle.ti_debugger.specs.declared.asked.Asked.TheVariants as asked
use Rattle.ti_service.specs.Classes.{classes_of}
use Rattle.ti_service.specs.Leaving.{Disposes, StaysOn}
use Rattle.ti_service.specs.Memberships.{AgentValue, state_of}
use Rattle.ti_service.specs.Service.{Member}
use Rattle.ti_debugger.specs.Ending as ending
use Rattle.ti_debugger.specs.Opening as opening
use Rattle.ti_debugger.specs.Runs as debugger_runs
use Rattle.ti_debugger.specs.Seats as debugger_seats
use Rattle.ti_debugger.specs.Serving as serving
use Rattle.ti_debugger.specs.Sessions as sessions
use Rattle.ti_capi.specs.declared.any_door.AnyDoor.{AnyDoor}
use Rattle.ti_capi.specs.declared.any_door.AnyDoor.TheVariants as any

-- the milliseconds of a time in nanoseconds
abbrev pub millis : ℕ → ℕ
millis now = now / 1000000

-- the only number of a debugger's connection
abbrev pub only : ℕ → Result ⊤ DoorError
only connection = if connection == 0 then Ok tt else Err NoConnection

abbrev pub at_door : DebuggerError → DoorError
at_door debugger_error.OutOfMemory = OutOfMemory
at_door debugger_error.NoDebugger = NoConnection

abbrev pub todo_at_door : HttpTodo → Todo
todo_at_door http_todo.Wait = todo.Wait
todo_at_door http_todo.Write = todo.Write
todo_at_door http_todo.Close = todo.Close

-- the session of a debugger's connection of this number
abbrev pub session_at : ℕ → DebuggerValue → Option debugger_talks.Talk
session_at connection d = if connection == 0 then d.session else None

abbrev pub is_there : ℕ → AnyDoor → Bool
is_there connection (any.Http d) = is_some (http.talk_at d connection)
is_there connection (any.Debugger d) = is_some (session_at connection d)

abbrev pub room_at : ℕ → AnyDoor → ℕ
room_at connection (any.Http d) = http.room_of (http.talk_at d connection)
room_at connection (any.Debugger d) = sessions.room_of (session_at connection d)

abbrev pub output_at : ℕ → AnyDoor → List ℕ
output_at connection (any.Http d) = http.output_of (http.talk_at d connection)
output_at connection (any.Debugger d) = sessions.output_of (session_at connection d)

abbrev pub resumptions : AnyDoor → ℕ
resumptions (any.Http d) = 0
resumptions (any.Debugger d) = d.resumptions

-- a connection of this number is taken in at this time
abbrev pub Opens : ℕ → ℕ → AnyDoor → AnyDoor → Type 0
Opens now c (any.Http d) (any.Http n) = http.Opens d n c (millis now)
Opens now c (any.Debugger d) (any.Debugger n) = (c ≡ 0) × (d.session ≡ None) × opening.Opens d.starts (first (alive_in d.watched)) n × (n ≡ record d { session = n.session; starts = n.starts })
Opens now c _ _ = ⊥

-- why no connection is taken in, and what becomes of those that are there
abbrev pub OpensNone : AnyDoor → AnyDoor → DoorError → Type 0
OpensNone (any.Http d) (any.Http n) e = http.OpensNone d n e
OpensNone (any.Debugger d) (any.Debugger n) e = (e ≡ Full) × (is_some d.session ≡ true) × (n ≡ d)
OpensNone _ _ e = ⊥

-- a session goes on by calls, and none begins or ends
abbrev pub SessionRuns : Option debugger_talks.Talk → Option debugger_talks.Talk → Type 0
SessionRuns None None = ⊤
SessionRuns None (Some s) = ⊥
SessionRuns (Some s) None = ⊥
SessionRuns (Some s) (Some n) = debugger_runs.RunsTo s n

-- Each connection goes on by calls, and none opens or closes. The door tells the same of the program, and one for debuggers has
-- resumed no fewer threads
abbrev pub AllRun : AnyDoor → AnyDoor → Type 0
AllRun (any.Http d) (any.Http n) = http.AllRun d n
AllRun (any.Debugger d) (any.Debugger n) = SessionRuns d.session n.session × Works d n
AllRun _ _ = ⊥

-- at this time the connection goes on by calls, and this is to be done with it
abbrev pub Goes : ℕ → ℕ → Todo → AnyDoor → AnyDoor → Type 0
Goes connection now t (any.Http d) (any.Http n) = (h : HttpTodo) × (t ≡ todo_at_door h) × http.ServesOne d n connection × http.GoesOn d n connection (λ s n. http_seats.RunsTo s n × http_seats.Says n h)
Goes connection now t (any.Debugger d) (any.Debugger n) =
    Works d n × (is_some d.session ≡ true → serving.IsServed now d n) × sessions.Changes (session_at connection d) (session_at connection n) (λ s s'. debugger_runs.RunsTo s s' × debugger_seats.Says n.asked s' t)
Goes connection now t _ _ = ⊥

-- there is no session, or no memory
abbrev pub RefusesSession : Option debugger_talks.Talk → DoorError → Type 0
RefusesSession None e = e ≡ NoConnection
RefusesSession (Some s) e = e ≡ OutOfMemory

-- there is no connection of this number, or no memory
abbrev pub Refuses : ℕ → AnyDoor → DoorError → Type 0
Refuses connection (any.Http d) e = http.Refuses (http.talk_at d connection) e
Refuses connection (any.Debugger d) e = RefusesSession (session_at connection d) e

-- there is no connection of this number, and nothing changes
abbrev pub IsUnknown : ℕ → AnyDoor → AnyDoor → DoorError → Type 0
IsUnknown connection d n e = (e ≡ NoConnection) × (is_there connection d ≡ false) × (n ≡ d)

-- the connection takes so many of these bytes, as many as it has room for
abbrev pub Feeds : ℕ → List ℕ → ℕ → ℕ → AnyDoor → AnyDoor → Type 0
Feeds connection bytes now count (any.Http d) (any.Http n) = http.Changes d n connection (http.Feeds bytes count (millis now))
Feeds connection bytes now count (any.Debugger d) (any.Debugger n) = (n ≡ record d { session = n.session }) × sessions.Changes (session_at connection d) (session_at connection n) (λ s n. sessions.Feeds s n bytes count)
Feeds connection bytes now count _ _ = ⊥

-- the peer of the connection sends no more
abbrev pub Ends : ℕ → AnyDoor → AnyDoor → Type 0
Ends connection (any.Http d) (any.Http n) = http.GoesOn d n connection (λ t n. http_seats.RunsTo t n × (n.ended ≡ true))
Ends connection (any.Debugger d) (any.Debugger n) = (n ≡ record d { session = n.session }) × sessions.Changes (session_at connection d) (session_at connection n) (λ s n. n ≡ record s { ended = true })
Ends connection _ _ = ⊥

-- the socket of the connection took so many bytes
abbrev pub Writes : ℕ → ℕ → ℕ → AnyDoor → AnyDoor → Type 0
Writes connection count now (any.Http d) (any.Http n) = http.Changes d n connection (λ t n. n ≡ written_from t count (millis now))
Writes connection count now (any.Debugger d) (any.Debugger n) = (n ≡ record d { session = n.session }) × sessions.Changes (session_at connection d) (session_at connection n) (λ s n. n ≡ record s { bytes = with_written s.bytes count })
Writes connection count now _ _ = ⊥

-- The connection is gone. What a debugger suspended is resumed, or will be
abbrev pub Disconnects : ℕ → AnyDoor → AnyDoor → Type 0
Disconnects connection (any.Http d) (any.Http n) = http.Closes d n connection
Disconnects connection (any.Debugger d) (any.Debugger n) = (is_some (session_at connection d) ≡ true) × (n.session ≡ None) × (n.due ≡ None) × NoneHeld n.watched × (n.asked ≡ asked.Nothing) × (n.objects ≡ []) × (n.numbers ≡ 0) × Works d (record n { objects = d.objects; numbers = d.numbers })
Disconnects connection _ _ = ⊥

-- the runtime ends, which a debugger is told. A door for HTTP tells nothing of it
abbrev pub RuntimeEnds : AnyDoor → AnyDoor → Type 0
RuntimeEnds (any.Http d) (any.Http n) = n ≡ d
RuntimeEnds (any.Debugger d) (any.Debugger n) = ending.RuntimeEnds d n
RuntimeEnds _ _ = ⊥

-- Each connection goes on, and none opens or closes. A debugger's session is told of events alone
abbrev pub Ticks : AnyDoor → AnyDoor → Type 0
Ticks (any.Http d) (any.Http n) = http.AllRun d n × http.IsTicked d n
Ticks (any.Debugger d) (any.Debugger n) =
    ToldBy (classes_of n.agent) d.next_class n.next_class d.session n.session × (n.due ≡ d.due) × (d.resumptions ≤ n.resumptions) × (n.about ≡ d.about) × (n.starts ≡ d.starts) × (n.tells ≡ d.tells) × (n.asked ≡ d.asked) × (n.objects ≡ d.objects) × (n.numbers ≡ d.numbers)
Ticks _ _ = ⊥

-- A door for debuggers ends only if no debugger is connected, and no suspension is out or to be undone
abbrev pub MayEnd : AnyDoor → Type 0
MayEnd (any.Http d) = ⊤
MayEnd (any.Debugger d) = sessions.is_idle d.session d.watched ≡ true

abbrev pub agent_at : AnyDoor → AgentValue
agent_at (any.Http d) = d.agent
agent_at (any.Debugger d) = d.agent

-- the environment of the door is disposed of, and its handle of the service is left
abbrev pub EndsAs : AnyDoor → Member → Type 0
EndsAs d s = Disposes (state_of (agent_at d)) s

-- The environment was not disposed of for this error, and may have left some of its threads. It is told of the same events
abbrev pub RemainsFor : TiError → AgentValue → AgentValue → Type 0
RemainsFor e a b = StaysOn (state_of a) (state_of b) e × (b.home.events ≡ a.home.events)

-- a debugger is connected, or a suspension is out or to be undone, and nothing changes
abbrev IsBusy : TiError → DebuggerValue → DebuggerValue → Type 0
IsBusy e d n = (sessions.is_idle d.session d.watched ≡ false) × (e ≡ Busy) × (n ≡ d)

-- A door that does not end is as it was, but for its environment, which was not disposed of for this error
abbrev pub StaysAs : TiError → AnyDoor → AnyDoor → Type 0
StaysAs e (any.Http d) (any.Http n) = (n ≡ record d { agent = n.agent }) × RemainsFor e d.agent n.agent
StaysAs e (any.Debugger d) (any.Debugger n) = (n ≡ record d { agent = n.agent }) × (IsBusy e d n ⊎ RemainsFor e d.agent n.agent)
StaysAs e _ _ = ⊥
