-- The connections of a door, by number.
use Rattle.std.specs.Prelude.{⊤, true, ◌≡◌, ◌⊎◌, ℕ, zero, suc, ◌<◌, ◌≤◌, List, [], ◌∷◌, ◌++◌, count_by, is_some, length, min, nat_lt, slice_get, slice_set, take, Option, Some, None, if◌then◌else◌}
use Rattle.ti_http.specs.declared.hosts.Hosts.{Hosts}
use Rattle.ti_http.specs.Talks.{Talk, fed, opened, room_in}
use Rattle.ti_monitor.specs.declared.door_desk.Due.{Due}
use Rattle.ti_monitor.specs.declared.door_error.DoorError.{DoorError}
use Rattle.ti_monitor.specs.declared.running.Running.{Running}
use Rattle.ti_monitor.specs.declared.door_error.DoorError.TheVariants as error
use Rattle.ti_service.specs.Memberships.{AgentValue}
use Rattle.ti_monitor.specs.Seats.{RunsTo}
use Rattle.ti_monitor.specs.Keeping.{Kept, books_at}
use Rattle.ti_monitor.specs.Serving.{Serves, Setting, setting, sitting}

-- A door, as contracts see it: the hosts that it serves, its connections, the name of the program and the version that it tells, as
-- bytes, its environment, what the request of each connection waits for, and what is counted
pub record DoorValue : Type 0 where
  pub hosts : Hosts
  pub talks : List (Option Talk)
  pub program : List ℕ
  pub version : List ℕ
  pub agent : AgentValue
  pub dues : List (Option Due)
  pub kept : Kept

abbrev pub door_with : Hosts → List (Option Talk) → List ℕ → List ℕ → AgentValue → List (Option Due) → Kept → DoorValue
door_with hosts talks program version agent dues kept = record {
  hosts = hosts;
  talks = talks;
  program = program;
  version = version;
  agent = agent;
  dues = dues;
  kept = kept;
}

-- the connection of this number, if it is open
abbrev pub opened_in : Option (Option Talk) → Option Talk
opened_in None = None
opened_in (Some t) = t

abbrev pub talk_at : DoorValue → ℕ → Option Talk
talk_at d conn = opened_in (slice_get d.talks conn)

-- what its request waits for, if one does
abbrev pub due_in : Option (Option Due) → Option Due
due_in None = None
due_in (Some u) = u

abbrev pub due_at : DoorValue → ℕ → Option Due
due_at d conn = due_in (slice_get d.dues conn)

-- the door with this at a number
abbrev pub with_talk : DoorValue → ℕ → Option Talk → DoorValue
with_talk d conn t = record d { talks = slice_set d.talks conn t }

-- the same with what its request waits for
abbrev pub with_seat : DoorValue → ℕ → Option Talk → Option Due → DoorValue
with_seat d conn t u = record d { talks = slice_set d.talks conn t; dues = slice_set d.dues conn u }

-- the connection of this number became another, and nothing else changed
abbrev pub Changes : DoorValue → DoorValue → ℕ → (Talk → Talk → Type 0) → Type 0
Changes old new conn P = (t : Talk) × (t' : Talk) × (talk_at old conn ≡ Some t) × (new ≡ with_talk old conn (Some t')) × P t t'

-- The same, and the environment of the door may go on. What becomes of what is due and counted, `ServesAt` says
abbrev pub GoesOn : DoorValue → DoorValue → ℕ → (Talk → Talk → Type 0) → Type 0
GoesOn old new conn P = Changes (record old { agent = new.agent; dues = new.dues; kept = new.kept }) new conn P

-- what a door tells, while as many connections are open as now
abbrev pub setting_in : DoorValue → Setting
setting_in d = setting d.program d.version (count_by is_some d.talks)

-- The connection of this number was served, and nothing else changed but the environment, which may go on. The readings of the
-- monitor are not seen here
abbrev pub ServesAt : DoorValue → DoorValue → ℕ → Type 0
ServesAt old new conn =
    (t : Talk) × (t' : Talk) × (u : Option Due) × (readings : List Running) × (readings' : List Running) × (begun : ℕ) × (begun' : ℕ)
    × (talk_at old conn ≡ Some t) × (new ≡ with_seat (record old { agent = new.agent; kept = new.kept }) conn (Some t') u)
    × Serves (setting_in old) (sitting t (due_at old conn) (books_at old.kept readings begun)) (sitting t' u (books_at new.kept readings' begun'))

-- the same, if there is one
abbrev pub ServesOne : DoorValue → DoorValue → ℕ → Type 0
ServesOne old new conn = ((talk_at old conn ≡ None) × (new ≡ old)) ⊎ ServesAt old new conn

-- those below a number were served, one after another
abbrev pub ServesBelow : ℕ → DoorValue → DoorValue → Type 0
ServesBelow zero old new = new ≡ old
ServesBelow (suc conn) old new = (between : DoorValue) × ServesBelow conn old between × ServesOne between new conn

-- what is due at the monitor was done, and then each connection was served
abbrev pub IsTicked : DoorValue → DoorValue → Type 0
IsTicked old new =
    (between : DoorValue) × (between ≡ record old { agent = between.agent; kept = between.kept }) × (between.kept.rows ≡ old.kept.rows) × ServesBelow 16 between new

-- the connection of this number is gone
abbrev pub Closes : DoorValue → DoorValue → ℕ → Type 0
Closes old new conn = (is_some (talk_at old conn) ≡ true) × (new ≡ with_seat old conn None None)

-- the connection takes bytes, as many as it has room for
abbrev pub Feeds : List ℕ → ℕ → ℕ → Talk → Talk → Type 0
Feeds bytes n now t t' = (n ≡ min (length bytes) (room_in t)) × (t' ≡ fed t (take n bytes) now)

-- a list with one more at a number that is free
abbrev pub with_new : {X : Type 0} → List (Option X) → ℕ → Option X → List (Option X)
with_new list conn x = if nat_lt conn (length list) then slice_set list conn x else list ++ x ∷ []

-- a number that was free has a new connection
abbrev pub Opens : DoorValue → DoorValue → ℕ → ℕ → Type 0
Opens old new conn now =
    (conn < 16) × (conn ≤ length old.talks) × (talk_at old conn ≡ None) × (new ≡ record old { talks = with_new old.talks conn (Some (opened old.hosts now)); dues = with_new old.dues conn None })

-- there is no connection of this number
abbrev pub IsUnknown : DoorValue → ℕ → DoorError → Type 0
IsUnknown d conn e = (e ≡ error.NoConnection) × (talk_at d conn ≡ None)

-- there is no connection of this number, or no memory
abbrev pub Refuses : Option Talk → DoorError → Type 0
Refuses None e = e ≡ error.NoConnection
Refuses (Some t) e = e ≡ error.OutOfMemory

abbrev pub room_of : Option Talk → ℕ
room_of None = 0
room_of (Some t) = room_in t

abbrev pub output_of : Option Talk → List ℕ
output_of None = []
output_of (Some t) = t.output

-- a connection went on by calls, and stayed open
abbrev pub OneRuns : Option Talk → Option Talk → Type 0
OneRuns None None = ⊤
OneRuns None (Some t) = ⊥
OneRuns (Some t) None = ⊥
OneRuns (Some t) (Some t') = RunsTo t t'

-- each of them went on by calls, and none opened or closed
abbrev pub TalksRun : List (Option Talk) → List (Option Talk) → Type 0
TalksRun [] [] = ⊤
TalksRun [] (b ∷ new) = ⊥
TalksRun (a ∷ old) [] = ⊥
TalksRun (a ∷ old) (b ∷ new) = OneRuns a b × TalksRun old new

-- The same, and nothing else changed but the environment of the door, which may go on. What becomes of what is due and counted,
-- `ServesOne` and `IsTicked` say
abbrev pub AllRun : DoorValue → DoorValue → Type 0
AllRun old new = (new ≡ record old { talks = new.talks; agent = new.agent; dues = new.dues; kept = new.kept }) × TalksRun old.talks new.talks

-- Why no connection opened. As many are open as may be, and they went on by calls; or fewer are, and nothing changed
abbrev pub OpensNone : DoorValue → DoorValue → DoorError → Type 0
OpensNone old new error.Full = (count_by is_some old.talks ≡ 16) × TalksRun old.talks new.talks × (new ≡ record old { talks = new.talks })
OpensNone old new error.OutOfMemory = (count_by is_some old.talks < 16) × (new ≡ old)
OpensNone old new error.NoConnection = ⊥
