-- What a session suspended and resumed at the service.
use Rattle.std.specs.Prelude.{◌≡◌, ℕ, ◌+◌, ◌==◌, Bool, true, false, List, [], ◌∷◌, if◌then◌else◌}
use Rattle.ti_jdwp.specs.declared.actions.Action.{Action}
use Rattle.ti_jdwp.specs.declared.actions.Action.TheVariants as action
use Rattle.ti_jdwp.specs.declared.actions.Phase.{Phase}
use Rattle.ti_jdwp.specs.declared.actions.Phase.TheVariants as phase
use Rattle.ti_jdwp.specs.declared.actions.Posted.{Posted}
use Rattle.ti_jdwp.specs.declared.actions.Posted.TheVariants as posted
use Rattle.ti_jdwp.specs.Holds.{is_own}
use Rattle.ti_jdwp.specs.Talks.{Talk, opened}
use Rattle.ti_jdwp.specs.SessionRuns.{Call, Fed, PeerEnded, Shut, Went, Failed, Replied, Listed, PostedAs, Settled, PlacedAs, LocatedAs, StoppedAt, Written, Happened, Began, Died, Step}

-- the driver posts a suspension of this thread
abbrev pub posts : Phase → ℕ → Bool
posts phase.Greeting t = false
posts phase.Ready t = false
posts phase.Asking t = false
posts (phase.Listing p) t = false
posts (phase.Stopping p) t = false
posts (phase.Suspending p u) t = u == t
posts (phase.Undoing p u) t = false
posts (phase.Settling p) t = false
posts (phase.Finishing p) t = false
posts phase.Refusing t = false
posts (phase.Placing w) t = false
posts (phase.Locating w) t = false
posts (phase.Putting w k) t = false
posts (phase.Denied d) t = false
posts (phase.Numbered n) t = false
posts phase.Resuming t = false
posts phase.Ending t = false
posts phase.Closed t = false

-- a suspension of this thread is to be undone
abbrev pub undoes : Phase → ℕ → Bool
undoes phase.Greeting t = false
undoes phase.Ready t = false
undoes phase.Asking t = false
undoes (phase.Listing p) t = false
undoes (phase.Stopping p) t = false
undoes (phase.Suspending p u) t = false
undoes (phase.Undoing p u) t = u == t
undoes (phase.Settling p) t = false
undoes (phase.Finishing p) t = false
undoes phase.Refusing t = false
undoes (phase.Placing w) t = false
undoes (phase.Locating w) t = false
undoes (phase.Putting w k) t = false
undoes (phase.Denied d) t = false
undoes (phase.Numbered n) t = false
undoes phase.Resuming t = false
undoes phase.Ending t = false
undoes phase.Closed t = false

abbrev pub is_closed : Phase → Bool
is_closed phase.Greeting = false
is_closed phase.Ready = false
is_closed phase.Asking = false
is_closed (phase.Listing p) = false
is_closed (phase.Stopping p) = false
is_closed (phase.Suspending p u) = false
is_closed (phase.Undoing p u) = false
is_closed (phase.Settling p) = false
is_closed (phase.Finishing p) = false
is_closed phase.Refusing = false
is_closed (phase.Placing w) = false
is_closed (phase.Locating w) = false
is_closed (phase.Putting w k) = false
is_closed (phase.Denied d) = false
is_closed (phase.Numbered n) = false
is_closed phase.Resuming = false
is_closed phase.Ending = false
is_closed phase.Closed = true

abbrev pub is_done : Posted → Bool
is_done posted.Suspended = true
is_done posted.ByAnother = false
is_done posted.NotAlive = false
is_done posted.Unknown = false

-- with this call the driver says that it suspended the thread
abbrev pub suspends_it : ℕ → Talk → Call → Bool
suspends_it t old (Fed bytes) = false
suspends_it t old PeerEnded = false
suspends_it t old Shut = false
suspends_it t old (Went act) = false
suspends_it t old Failed = false
suspends_it t old (Replied a) = false
suspends_it t old (Listed threads) = false
suspends_it t old (PostedAs post) = if is_done post then posts old.phase t else false
suspends_it t old Settled = false
suspends_it t old (PlacedAs r) = false
suspends_it t old (LocatedAs o) = false
suspends_it t old (StoppedAt x v) = false
suspends_it t old (Written count) = false
suspends_it t old (Happened e o result) = false
suspends_it t old (Began v result) = false
suspends_it t old (Died result) = false

abbrev pub resumes_by : ℕ → Action → Bool
resumes_by t action.Again = false
resumes_by t (action.Ask r) = false
resumes_by t action.ListThreads = false
resumes_by t (action.SetBreakpoint k m i) = false
resumes_by t (action.Locate v) = false
resumes_by t (action.LetGo v) = false
resumes_by t (action.Suspend v) = false
resumes_by t action.Settle = false
resumes_by t (action.Resume v) = v == t
resumes_by t action.Write = false
resumes_by t action.Close = false
resumes_by t action.Wait = false

-- with this call the driver is told to resume the thread
abbrev pub resumes_it : ℕ → Call → Bool
resumes_it t (Fed bytes) = false
resumes_it t PeerEnded = false
resumes_it t Shut = false
resumes_it t (Went act) = resumes_by t act
resumes_it t Failed = false
resumes_it t (Replied a) = false
resumes_it t (Listed threads) = false
resumes_it t (PostedAs post) = false
resumes_it t Settled = false
resumes_it t (PlacedAs r) = false
resumes_it t (LocatedAs o) = false
resumes_it t (StoppedAt x v) = false
resumes_it t (Written count) = false
resumes_it t (Happened e o result) = false
resumes_it t (Began v result) = false
resumes_it t (Died result) = false

abbrev pub once : Bool → ℕ
once b = if b then 1 else 0

-- these calls in this order, with how often the driver suspended and resumed the thread
abbrev pub Counts : ℕ → Talk → List Call → ℕ → ℕ → Talk → Type 0
Counts t old [] suspended resumed new = (old ≡ new) × (suspended ≡ 0) × (resumed ≡ 0)
Counts t old (c ∷ calls) suspended resumed new =
    (next : Talk) × (s r : ℕ) × Step old c next × (suspended ≡ once (suspends_it t old c) + s) × (resumed ≡ once (resumes_it t c) + r) × Counts t next calls s r new

-- a suspension of the thread that the session still has to undo
abbrev pub owed : Talk → ℕ → ℕ
owed s t = once (is_own s.holds t) + once (undoes s.phase t)

-- The driver resumes a thread as often as it suspended it for the session, but for what is still owed. After the close nothing is.
pub record IsEven (end : Talk) (t suspended resumed : ℕ) : Type 0 where
  pub balance : suspended ≡ resumed + owed end t
  pub closed : is_closed end.phase ≡ true → suspended ≡ resumed

abbrev pub NothingStaysSuspended : Type 0
NothingStaysSuspended = (t : ℕ) (calls : List Call) (suspended resumed : ℕ) (end : Talk) → Counts t opened calls suspended resumed end → IsEven end t suspended resumed
