-- Doors, as C uses them.
use Rattle.std.specs.Prelude.{ℕ, ◌≡◌, ◌⊎◌, string_bytes, true, false, List, [], length, min, nat_lt, if◌then◌else◌, Option, None, Some, Result, Ok, Err, ⊤}
use Rattle.ti_types.specs.TiError.{number_of}
use Rattle.ti_types.specs.declared.error.TiError.{TiError}
use Rattle.ti_types.specs.declared.error.TiError.TheVariants.{Full, OutOfMemory}
use Rattle.ti_http.specs.declared.hosts.Hosts.{Hosts}
use Rattle.ti_http.specs.declared.hosts.Hosts.TheVariants as hosts
use Rattle.ti_monitor.specs.declared.door_error.DoorError.{DoorError}
use Rattle.ti_monitor.specs.declared.door_error.DoorError.TheVariants as door_error
use Rattle.ti_debugger.specs.declared.seat.Todo.{Todo}
use Rattle.ti_debugger.specs.declared.seat.Todo.TheVariants as todo
use Rattle.ti_monitor.specs.Doors.{DoorValue}
use Rattle.ti_monitor.specs.Monitors.{MayEnable}
use Rattle.ti_service.specs.Agent.{IsNewAgent}
use Rattle.ti_service.specs.Memberships.{AgentValue, state_of}
use Rattle.ti_service.specs.Service.{Member, with_handle}
use Rattle.ti_debugger.specs.Crowds.{NoneHeld}
use Rattle.ti_debugger.specs.declared.about.About.{About}
use Rattle.ti_debugger.specs.declared.asked.Asked.TheVariants as asked
use Rattle.ti_capi.specs.declared.any_door.AnyDoor.{AnyDoor}
use Rattle.ti_capi.specs.declared.any_door.AnyDoor.TheVariants.{Http, Debugger}
use Rattle.ti_capi.specs.declared.held.Held.{Held}
use Rattle.ti_capi.specs.Codes.{misused, none_told}
use Rattle.ti_capi.specs.declared.held.HeldDoor.{HeldDoor}
use Rattle.ti_capi.specs.AnyDoors.{AllRun, EndsAs, Feeds, Goes, MayEnd, Opens, OpensNone, Refuses, RuntimeEnds, StaysAs, Ticks, is_there, output_at, resumptions, room_at}
use Rattle.ti_capi.specs.Handles.{Handle, door_box_in, door_of, service_in, with_door_box}
use Rattle.ti_capi.specs.Services.{Fills, FillsBy, NamesWrongly, RefusesEnv}
use Rattle.ti_capi.specs.Values.{over}

abbrev pub hosts_at : ℕ → Hosts
hosts_at port = if nat_lt port 65536 then hosts.Local port else hosts.Any

abbrev pub code_refused : DoorError → ℕ
code_refused door_error.NoConnection = none_told
code_refused door_error.OutOfMemory = number_of OutOfMemory
code_refused door_error.Full = number_of Full

abbrev pub code_done : Result ⊤ DoorError → ℕ
code_done (Ok u) = 0
code_done (Err e) = code_refused e

abbrev pub action_of : Todo → ℕ
action_of todo.Wait = 0
action_of todo.Write = 1
action_of todo.Close = 2
action_of todo.Ask = 3

-- A call at the door in a box. With a door, the call does this to it. With none, nothing is written, and the code is 304
abbrev pub CallsBox : (AnyDoor → AnyDoor → ℕ → Type 0) → (unwritten : Type 0) → Option AnyDoor → Option AnyDoor → ℕ → Type 0
CallsBox does unwritten (Some d) (Some n) code = does d n code
CallsBox does unwritten (Some d) None code = ⊥
CallsBox does unwritten None after code = (after ≡ None) × (code ≡ misused) × unwritten

-- The same behind a handle, where the box stays. A handle that has none is as it was
abbrev pub CallsBehind : (AnyDoor → AnyDoor → ℕ → Type 0) → (unwritten : Type 0) → Option HeldDoor → Option HeldDoor → Handle → Handle → ℕ → Type 0
CallsBehind does unwritten (Some h) (Some k) old new code = (new ≡ with_door_box old k) × CallsBox does unwritten h.door k.door code
CallsBehind does unwritten (Some h) None old new code = ⊥
CallsBehind does unwritten None after old new code = (new ≡ old) × (code ≡ misused) × unwritten

abbrev pub CallsDoor : (AnyDoor → AnyDoor → ℕ → Type 0) → (unwritten : Type 0) → Handle → Handle → ℕ → Type 0
CallsDoor does unwritten old new code = CallsBehind does unwritten (door_box_in old) (door_box_in new) old new code

-- a connection is taken in. Or it is refused: then those that are there go on, and nothing is written
abbrev pub Connects : ℕ → ℕ → ℕ → AnyDoor → AnyDoor → ℕ → Type 0
Connects now c c' d n code = ((code ≡ 0) × Opens now c' d n) ⊎ ((e : DoorError) × (code ≡ code_refused e) × OpensNone d n e × (c' ≡ c))

-- A call of this connection is refused: there is none of its number, or no memory
abbrev pub RefusesAt : AnyDoor → ℕ → ℕ → Type 0
RefusesAt d connection code = (e : DoorError) × (code ≡ code_refused e) × Refuses connection d e

-- the connection goes on by calls, and this is to be done with it
abbrev pub TellsNext : ℕ → ℕ → ℕ → ℕ → AnyDoor → AnyDoor → Type 0
TellsNext connection now action room d n = (todo : Todo) × (action ≡ action_of todo) × (room ≡ room_at connection n) × Goes connection now todo d n

abbrev pub Tells : ℕ → ℕ → ℕ → ℕ → (unwritten : Type 0) → AnyDoor → AnyDoor → ℕ → Type 0
Tells connection now action room unwritten d n code = ((code ≡ 0) × TellsNext connection now action room d n) ⊎ (RefusesAt d connection code × AllRun d n × unwritten)

-- the connection takes so many of the bytes, or all are as before
abbrev pub Takes : ℕ → List ℕ → ℕ → ℕ → ℕ → AnyDoor → AnyDoor → ℕ → Type 0
Takes connection bytes now c c' d n code =
    ((code ≡ 0) × Feeds connection bytes now c' d n) ⊎ (RefusesAt d connection code × (n ≡ d) × (c' ≡ c))

-- the connection becomes another so, or there is none of this number, and the door is as it was
abbrev pub ChangesOne : ℕ → (AnyDoor → AnyDoor → Type 0) → AnyDoor → AnyDoor → ℕ → Type 0
ChangesOne connection changes d n code =
    ((code ≡ 0) × changes d n) ⊎ ((code ≡ none_told) × (is_there connection d ≡ false) × (n ≡ d))

-- the first bytes of what the connection has to write, as many as there is room for
abbrev pub GivesOutput : ℕ → List ℕ → List ℕ → ℕ → ℕ → AnyDoor → AnyDoor → ℕ → Type 0
GivesOutput connection b b' c c' d n code =
    (n ≡ d) × (
    ((code ≡ 0) × (is_there connection d ≡ true) × (c' ≡ min (length (output_at connection d)) (length b)) × (b' ≡ over (output_at connection d) b))
    ⊎ ((code ≡ none_told) × (is_there connection d ≡ false) × (b' ≡ b) × (c' ≡ c))
    )

abbrev pub TellsOfEnd : AnyDoor → AnyDoor → ℕ → Type 0
TellsOfEnd d n code = (code ≡ 0) × RuntimeEnds d n

-- each connection goes on
abbrev pub IsTicked : AnyDoor → AnyDoor → ℕ → Type 0
IsTicked d n code = (code ≡ 0) × Ticks d n

abbrev pub TellsResumptions : ℕ → AnyDoor → AnyDoor → ℕ → Type 0
TellsResumptions count d n code = (code ≡ 0) × (n ≡ d) × (count ≡ resumptions d)

-- the code tells why the environment of a door stays, and so does the door. An empty box has none
abbrev pub StaysIn : Option AnyDoor → Option AnyDoor → ℕ → Type 0
StaysIn (Some d) (Some n) code = (e : TiError) × (code ≡ number_of e) × StaysAs e d n
StaysIn (Some d) None code = ⊥
StaysIn None after code = (after ≡ None) × (code ≡ misused)

-- a door could be disposed of, and was
abbrev pub EndsIn : Option AnyDoor → Type 0
EndsIn (Some d) = MayEnd d × (s : Member) × EndsAs d s
EndsIn None = ⊥

-- the door is disposed of, or stays
abbrev pub Closes : Option AnyDoor → Option AnyDoor → ℕ → Type 0
Closes door after code = ((code ≡ 0) × (after ≡ None) × EndsIn door) ⊎ StaysIn door after code

-- the door is gone, and its handle empty. Or the code tells why its environment stays, and so does the door behind its handle
abbrev pub ClosesBehind : Option HeldDoor → Option HeldDoor → Handle → Handle → ℕ → Type 0
ClosesBehind (Some h) (Some k) old new code = (new ≡ with_door_box old k) × StaysIn h.door k.door code
ClosesBehind (Some h) None old new code = (code ≡ 0) × (new.kind ≡ 0) × EndsIn h.door
ClosesBehind None after old new code = (new ≡ old) × (code ≡ misused)

abbrev pub ClosesDoor : Handle → Handle → ℕ → Type 0
ClosesDoor old new code = ClosesBehind (door_box_in old) (door_box_in new) old new code

-- one of two texts is none, or there is no memory for it
abbrev pub NamesOneWrongly : List ℕ → List ℕ → TiError → Type 0
NamesOneWrongly one other e = NamesWrongly one e ⊎ NamesWrongly other e

-- why there is no door: the program's name or the version is no text, or no environment came
abbrev pub RefusesDoor : List ℕ → List ℕ → Member → Member → TiError → Type 0
RefusesDoor name version m n e = (NamesOneWrongly name version e × (n ≡ m)) ⊎ RefusesEnv m n e

-- A door without connections, with an environment of its own that came by this handle of the service. It serves the hosts of the
-- port, and tells this name and this version
pub record Serves (name version : List ℕ) (port : ℕ) (m : Member) (d : DoorValue) : Type 0 where
  pub hosts_are : d.hosts ≡ hosts_at port
  pub talks_are : d.talks ≡ []
  pub program_is : d.program ≡ name
  pub version_is : d.version ≡ version
  pub agent_is : (a : AgentValue) × IsNewAgent m (state_of a) × MayEnable (state_of a) (state_of d.agent)

abbrev pub ServesAt : List ℕ → List ℕ → ℕ → Member → Option AnyDoor → Type 0
ServesAt name version port m (Some (Http d)) = Serves name version port m d
ServesAt name version port m (Some (Debugger d)) = ⊥
ServesAt name version port m None = ⊥

abbrev pub HasDoor : List ℕ → List ℕ → ℕ → Member → Option Held → Type 0
HasDoor name version port m held = ServesAt name version port m (door_of held)

abbrev pub OpensFor : List ℕ → List ℕ → ℕ → Member → Member → Handle → Handle → ℕ → Type 0
OpensFor name version port m n old new code = Fills (n ≡ m) (λ x. (n ≡ with_handle m) × HasDoor name version port m x) (RefusesDoor name version m n) old new code

abbrev pub OpensDoor : List ℕ → List ℕ → ℕ → Handle → Handle → Handle → Handle → ℕ → Type 0
OpensDoor name version port s0 s1 old new code = FillsBy (OpensFor name version port) (service_in s0) (service_in s1) s0 s1 old new code

-- one of three texts is none, or there is no memory for it
abbrev pub TellsWrongly : List ℕ → List ℕ → List ℕ → TiError → Type 0
TellsWrongly name path version e = NamesOneWrongly name path e ⊎ NamesWrongly version e

abbrev pub RefusesDebugger : List ℕ → List ℕ → List ℕ → Member → Member → TiError → Type 0
RefusesDebugger name path version m n e = (TellsWrongly name path version e × (n ≡ m)) ⊎ RefusesEnv m n e

-- debuggers are told this name, this path and this version
pub record TellsAbout (name path version : List ℕ) (a : About) : Type 0 where
  pub description_is : string_bytes a.description ≡ name
  pub version_is : string_bytes a.version ≡ version
  pub name_is : string_bytes a.name ≡ name
  pub base_is : string_bytes a.base ≡ path
  pub path_is : string_bytes a.path ≡ path

-- No debugger is connected, none has suspended a thread, and this is what debuggers are told of the program. The runtime waits for no
-- debugger and tells no variables, no question is open, and no text or table is kept
abbrev pub Awaits : List ℕ → List ℕ → List ℕ → Option AnyDoor → Type 0
Awaits name path version (Some (Debugger d)) = (d.session ≡ None) × NoneHeld d.watched × TellsAbout name path version d.about × (d.starts ≡ false) × (d.tells ≡ false) × (d.asked ≡ asked.Nothing) × (d.objects ≡ []) × (d.numbers ≡ 0)
Awaits name path version (Some (Http d)) = ⊥
Awaits name path version None = ⊥

abbrev pub AwaitsDebugger : List ℕ → List ℕ → List ℕ → Option Held → Type 0
AwaitsDebugger name path version held = Awaits name path version (door_of held)

abbrev pub OpensDebuggerFor : List ℕ → List ℕ → List ℕ → Member → Member → Handle → Handle → ℕ → Type 0
OpensDebuggerFor name path version m n old new code = Fills (n ≡ m) (λ x. (n ≡ with_handle m) × AwaitsDebugger name path version x) (RefusesDebugger name path version m n) old new code

abbrev pub OpensDebugger : List ℕ → List ℕ → List ℕ → Handle → Handle → Handle → Handle → ℕ → Type 0
OpensDebugger name path version s0 s1 old new code = FillsBy (OpensDebuggerFor name path version) (service_in s0) (service_in s1) s0 s1 old new code
