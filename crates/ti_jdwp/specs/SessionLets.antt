-- Threads that stopped, and are let go when their stop was told.
use Rattle.std.specs.Prelude.{◌≡◌, ℕ, List, [], ◌∷◌, ◌++◌, Option, Some, None, if◌then◌else◌}
use Rattle.std.specs.List.{flat_map}
use Rattle.ti_jdwp.specs.declared.actions.Action.{Action}
use Rattle.ti_jdwp.specs.declared.actions.Action.TheVariants as action
use Rattle.ti_jdwp.specs.declared.notice.Notice.{Notice}
use Rattle.ti_jdwp.specs.declared.stops.Verdict.{Verdict}
use Rattle.ti_jdwp.specs.declared.stops.Verdict.TheVariants as verdict
use Rattle.ti_jdwp.specs.Talks.{Talk, opened}
use Rattle.ti_jdwp.specs.SessionRuns.{Call, Fed, PeerEnded, Shut, Went, Failed, Replied, Listed, PostedAs, Settled, PlacedAs, LocatedAs, StoppedAt, Written, Happened, Began, Died, Runs}

abbrev pub waits_by : Verdict → ℕ → List ℕ
waits_by verdict.Told thread = thread ∷ []
waits_by verdict.Passed thread = []
waits_by (verdict.Deeper n) thread = []

-- the thread whose stop is to be told after this call
abbrev pub stopped_by : Call → List ℕ
stopped_by (Fed bytes) = []
stopped_by PeerEnded = []
stopped_by Shut = []
stopped_by (Went act) = []
stopped_by Failed = []
stopped_by (Replied a) = []
stopped_by (Listed threads) = []
stopped_by (PostedAs post) = []
stopped_by Settled = []
stopped_by (PlacedAs placed) = []
stopped_by (LocatedAs standing) = []
stopped_by (StoppedAt x v) = waits_by v x.thread
stopped_by (Written count) = []
stopped_by (Happened e o result) = []
stopped_by (Began v result) = []
stopped_by (Died result) = []

abbrev pub lets_go : Action → List ℕ
lets_go action.Again = []
lets_go (action.Ask r) = []
lets_go action.ListThreads = []
lets_go (action.SetBreakpoint k m i) = []
lets_go (action.Locate v) = []
lets_go (action.LetGo v) = v ∷ []
lets_go (action.Suspend v) = []
lets_go action.Settle = []
lets_go (action.Resume v) = []
lets_go action.Write = []
lets_go action.Close = []
lets_go action.Wait = []

-- the thread that the driver lets go by this call
abbrev pub let_go_by : Call → List ℕ
let_go_by (Fed bytes) = []
let_go_by PeerEnded = []
let_go_by Shut = []
let_go_by (Went act) = lets_go act
let_go_by Failed = []
let_go_by (Replied a) = []
let_go_by (Listed threads) = []
let_go_by (PostedAs post) = []
let_go_by Settled = []
let_go_by (PlacedAs placed) = []
let_go_by (LocatedAs standing) = []
let_go_by (StoppedAt x v) = []
let_go_by (Written count) = []
let_go_by (Happened e o result) = []
let_go_by (Began v result) = []
let_go_by (Died result) = []

-- the thread that waits for a notice
abbrev pub waits_for : Notice → List ℕ
waits_for n = if n.stop then n.thread ∷ [] else []

abbrev pub first_waits : Option Notice → List ℕ
first_waits None = []
first_waits (Some n) = waits_for n

-- the threads whose stops are yet to be told
abbrev pub waiting : Talk → List ℕ
waiting t = first_waits t.notice ++ flat_map waits_for t.queue.waiting

-- Each stop that is to be told lets its thread go once, in the order of the stops, but for those that still wait.
abbrev pub StopsAreLetGo : Type 0
StopsAreLetGo = (calls : List Call) (sent : List ℕ) (end : Talk) → Runs opened calls sent end → flat_map stopped_by calls ≡ flat_map let_go_by calls ++ waiting end
