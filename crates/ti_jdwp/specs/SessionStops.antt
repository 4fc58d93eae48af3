-- No event goes out between a stop of all threads and their resumption.
use Rattle.std.specs.Prelude.{◌≡◌, ℕ, ◌==◌, Bool, true, false, ◌&&◌, ◌||◌, List, [], ◌∷◌, length, Option, Some, None, is_some, if◌then◌else◌}
use Rattle.ti_jdwp.specs.declared.actions.Phase.{Phase}
use Rattle.ti_jdwp.specs.declared.actions.Phase.TheVariants as phase
use Rattle.ti_jdwp.specs.declared.actions.Purpose.{Purpose}
use Rattle.ti_jdwp.specs.declared.actions.Purpose.TheVariants as purpose
use Rattle.ti_jdwp.specs.declared.notice.Notice.{Notice}
use Rattle.ti_jdwp.specs.Holds.{held_of}
use Rattle.ti_jdwp.specs.Steps.{is_all}
use Rattle.ti_jdwp.specs.Talks.{Talk, opened}
use Rattle.ti_jdwp.specs.SessionRuns.{Call, Fed, PeerEnded, Shut, Went, Failed, Replied, Listed, PostedAs, Settled, PlacedAs, LocatedAs, StoppedAt, Written, Happened, Began, Died, Runs}

abbrev pub is_event : Purpose → Bool
is_event purpose.One = false
is_event purpose.All = false
is_event purpose.Event = true
is_event purpose.End = false

-- all is done for an event
abbrev pub is_telling : Phase → Bool
is_telling phase.Greeting = false
is_telling phase.Ready = false
is_telling phase.Asking = false
is_telling (phase.Listing p) = false
is_telling (phase.Stopping p) = false
is_telling (phase.Suspending p u) = false
is_telling (phase.Undoing p u) = false
is_telling (phase.Settling p) = false
is_telling (phase.Finishing p) = is_event p
is_telling phase.Refusing = false
is_telling (phase.Placing w) = false
is_telling (phase.Locating w) = false
is_telling (phase.Putting w k) = false
is_telling (phase.Denied d) = false
is_telling (phase.Numbered n) = false
is_telling phase.Resuming = false
is_telling phase.Ending = false
is_telling phase.Closed = false

abbrev pub is_resuming : Phase → Bool
is_resuming phase.Greeting = false
is_resuming phase.Ready = false
is_resuming phase.Asking = false
is_resuming (phase.Listing p) = false
is_resuming (phase.Stopping p) = false
is_resuming (phase.Suspending p u) = false
is_resuming (phase.Undoing p u) = false
is_resuming (phase.Settling p) = false
is_resuming (phase.Finishing p) = false
is_resuming phase.Refusing = false
is_resuming (phase.Placing w) = false
is_resuming (phase.Locating w) = false
is_resuming (phase.Putting w k) = false
is_resuming (phase.Denied d) = false
is_resuming (phase.Numbered n) = false
is_resuming phase.Resuming = true
is_resuming phase.Ending = false
is_resuming phase.Closed = false

abbrev pub is_stop : Option Notice → Bool
is_stop None = false
is_stop (Some n) = is_all n.policy

-- with this call an event goes out, other than the end of the runtime, which is told in any case
abbrev pub tells_event : Talk → Call → Bool
tells_event t (Fed bytes) = false
tells_event t PeerEnded = false
tells_event t Shut = false
tells_event t (Went act) = is_telling t.phase && ((length t.bytes.output == 0) && is_some t.notice)
tells_event t Failed = false
tells_event t (Replied a) = false
tells_event t (Listed threads) = false
tells_event t (PostedAs post) = false
tells_event t Settled = false
tells_event t (PlacedAs r) = false
tells_event t (LocatedAs o) = false
tells_event t (StoppedAt x v) = false
tells_event t (Written count) = false
tells_event t (Happened e o result) = false
tells_event t (Began v result) = false
tells_event t (Died result) = false

-- and it stopped all threads
abbrev pub stops_all : Talk → Call → Bool
stops_all t c = tells_event t c && is_stop t.notice

-- with this call all are resumed: a request to resume all is answered, or the debugger suspends no thread any more
abbrev pub resumes_all : Talk → Call → Talk → Bool
resumes_all old (Fed bytes) new = false
resumes_all old PeerEnded new = false
resumes_all old Shut new = false
resumes_all old (Went act) new = (is_resuming old.phase && (length old.work == 0)) || (held_of new.holds == 0)
resumes_all old Failed new = false
resumes_all old (Replied a) new = false
resumes_all old (Listed threads) new = false
resumes_all old (PostedAs post) new = false
resumes_all old Settled new = false
resumes_all old (PlacedAs r) new = false
resumes_all old (LocatedAs o) new = false
resumes_all old (StoppedAt x v) new = false
resumes_all old (Written count) new = false
resumes_all old (Happened e o result) new = false
resumes_all old (Began v result) new = false
resumes_all old (Died result) new = false

-- whether all threads stand by an event after this call
abbrev pub stands_after : Bool → Talk → Call → Talk → Bool
stands_after stands old c new = if stops_all old c then true else (if resumes_all old c new then false else stands)

-- each event of a run goes out while none stands that stopped all threads
abbrev pub AreAlone : Bool → (old : Talk) (calls : List Call) (sent : List ℕ) (new : Talk) → Runs old calls sent new → Type 0
AreAlone stands old [] sent new run = Unit {0}
AreAlone stands old (c ∷ calls) sent new run =
    (tells_event old c ≡ true → stands ≡ false) × AreAlone (stands_after stands old c run.0) run.0 calls run.1 new run.4

abbrev pub NoEventWhileStopped : Type 0
NoEventWhileStopped = (calls : List Call) (sent : List ℕ) (end : Talk) (run : Runs opened calls sent end) → AreAlone false opened calls sent end run
