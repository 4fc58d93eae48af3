-- What the answers of the driver make of a session.
use Rattle.std.specs.Prelude.{◌≡◌, ℕ, Bool, true, false, List, Option, Some, None, Result, Ok, Err, ◌⊎◌}
use Rattle.ti_jdwp.specs.declared.actions.Phase.{Phase}
use Rattle.ti_jdwp.specs.declared.actions.Phase.TheVariants as phase
use Rattle.ti_jdwp.specs.declared.actions.Posted.{Posted}
use Rattle.ti_jdwp.specs.declared.actions.Posted.TheVariants as posted
use Rattle.ti_jdwp.specs.declared.actions.Purpose.{Purpose}
use Rattle.ti_jdwp.specs.declared.actions.Purpose.TheVariants as purpose
use Rattle.ti_jdwp.specs.declared.error.JdwpError.{JdwpError}
use Rattle.ti_jdwp.specs.declared.error.JdwpError.TheVariants as error
use Rattle.ti_jdwp.specs.declared.plan.Wish.{Wish}
use Rattle.ti_jdwp.specs.declared.stops.Standing.{Standing}
use Rattle.ti_jdwp.specs.declared.suspensions.Holder.TheVariants as holder
use Rattle.ti_jdwp.specs.Holds.{Suspends}
use Rattle.ti_jdwp.specs.Stops.{nowhere}
use Rattle.ti_jdwp.specs.Talks.{Talk, after}

-- the driver answers a request
abbrev pub is_asked : Phase → Bool
is_asked phase.Greeting = false
is_asked phase.Ready = false
is_asked phase.Asking = true
is_asked (phase.Listing p) = false
is_asked (phase.Stopping p) = false
is_asked (phase.Suspending p t) = false
is_asked (phase.Undoing p t) = false
is_asked (phase.Settling p) = false
is_asked (phase.Finishing p) = false
is_asked phase.Refusing = false
is_asked (phase.Placing w) = false
is_asked (phase.Locating w) = false
is_asked (phase.Putting w k) = false
is_asked (phase.Denied d) = false
is_asked (phase.Numbered n) = false
is_asked phase.Resuming = false
is_asked phase.Ending = false
is_asked phase.Closed = false

-- the driver says what came of a suspension
abbrev pub is_posting : Phase → Bool
is_posting phase.Greeting = false
is_posting phase.Ready = false
is_posting phase.Asking = false
is_posting (phase.Listing p) = false
is_posting (phase.Stopping p) = false
is_posting (phase.Suspending p t) = true
is_posting (phase.Undoing p t) = false
is_posting (phase.Settling p) = false
is_posting (phase.Finishing p) = false
is_posting phase.Refusing = false
is_posting (phase.Placing w) = false
is_posting (phase.Locating w) = false
is_posting (phase.Putting w k) = false
is_posting (phase.Denied d) = false
is_posting (phase.Numbered n) = false
is_posting phase.Resuming = false
is_posting phase.Ending = false
is_posting phase.Closed = false

-- the threads that are to be suspended are listed
abbrev pub listed_in : Phase → List ℕ → Talk → Option Talk
listed_in phase.Greeting threads t = None
listed_in phase.Ready threads t = None
listed_in phase.Asking threads t = None
listed_in (phase.Listing p) threads t = Some (record t { work = threads; phase = phase.Stopping p })
listed_in (phase.Stopping p) threads t = None
listed_in (phase.Suspending p u) threads t = None
listed_in (phase.Undoing p u) threads t = None
listed_in (phase.Settling p) threads t = None
listed_in (phase.Finishing p) threads t = None
listed_in phase.Refusing threads t = None
listed_in (phase.Placing w) threads t = None
listed_in (phase.Locating w) threads t = None
listed_in (phase.Putting w k) threads t = None
listed_in (phase.Denied d) threads t = None
listed_in (phase.Numbered n) threads t = None
listed_in phase.Resuming threads t = None
listed_in phase.Ending threads t = None
listed_in phase.Closed threads t = None

-- the suspensions stand, or the time is over
abbrev pub settled_in : Phase → Talk → Option Talk
settled_in phase.Greeting t = None
settled_in phase.Ready t = None
settled_in phase.Asking t = None
settled_in (phase.Listing p) t = None
settled_in (phase.Stopping p) t = None
settled_in (phase.Suspending p u) t = None
settled_in (phase.Undoing p u) t = None
settled_in (phase.Settling p) t = Some (record t { phase = phase.Finishing p })
settled_in (phase.Finishing p) t = None
settled_in phase.Refusing t = None
settled_in (phase.Placing w) t = None
settled_in (phase.Locating w) t = None
settled_in (phase.Putting w k) t = None
settled_in (phase.Denied d) t = None
settled_in (phase.Numbered n) t = None
settled_in phase.Resuming t = None
settled_in phase.Ending t = None
settled_in phase.Closed t = None

-- where a session is after a thread was unknown
abbrev pub unknown : Purpose → Phase
unknown purpose.One = phase.Refusing
unknown purpose.All = after purpose.All
unknown purpose.Event = after purpose.Event
unknown purpose.End = after purpose.End

-- A suspension that was posted is counted. Where there is no memory to count it, the service undoes it.
abbrev pub PostedBy : Purpose → ℕ → Posted → Talk → Talk → Type 0
PostedBy p t posted.Suspended old new =
    (Suspends old.holds t holder.Debugger new.holds × (new ≡ record old { phase = after p; holds = new.holds }))
    ⊎ (new ≡ record old { phase = phase.Undoing p t; short = true })
PostedBy p t posted.ByAnother old new =
    (Suspends old.holds t holder.Another new.holds × (new ≡ record old { phase = after p; holds = new.holds }))
    ⊎ (new ≡ record old { phase = after p; short = true })
PostedBy p t posted.NotAlive old new = new ≡ record old { phase = after p }
PostedBy p t posted.Unknown old new = new ≡ record old { phase = unknown p }

abbrev pub PostedIn : Phase → Posted → Talk → Talk → Type 0
PostedIn phase.Greeting posted old new = ⊥
PostedIn phase.Ready posted old new = ⊥
PostedIn phase.Asking posted old new = ⊥
PostedIn (phase.Listing p) posted old new = ⊥
PostedIn (phase.Stopping p) posted old new = ⊥
PostedIn (phase.Suspending p t) posted old new = PostedBy p t posted old new
PostedIn (phase.Undoing p t) posted old new = ⊥
PostedIn (phase.Settling p) posted old new = ⊥
PostedIn (phase.Finishing p) posted old new = ⊥
PostedIn phase.Refusing posted old new = ⊥
PostedIn (phase.Placing w) posted old new = ⊥
PostedIn (phase.Locating w) posted old new = ⊥
PostedIn (phase.Putting w k) posted old new = ⊥
PostedIn (phase.Denied d) posted old new = ⊥
PostedIn (phase.Numbered n) posted old new = ⊥
PostedIn phase.Resuming posted old new = ⊥
PostedIn phase.Ending posted old new = ⊥
PostedIn phase.Closed posted old new = ⊥

abbrev pub placed_as : Wish → Result (Unit {0}) JdwpError → Phase
placed_as w (Ok done) = phase.Putting w nowhere
placed_as w (Err e) = phase.Denied e

-- the driver says what came of a breakpoint
abbrev pub placed_in : Phase → Result (Unit {0}) JdwpError → Talk → Option Talk
placed_in phase.Greeting placed t = None
placed_in phase.Ready placed t = None
placed_in phase.Asking placed t = None
placed_in (phase.Listing p) placed t = None
placed_in (phase.Stopping p) placed t = None
placed_in (phase.Suspending p u) placed t = None
placed_in (phase.Undoing p u) placed t = None
placed_in (phase.Settling p) placed t = None
placed_in (phase.Finishing p) placed t = None
placed_in phase.Refusing placed t = None
placed_in (phase.Placing w) placed t = Some (record t { phase = placed_as w placed })
placed_in (phase.Locating w) placed t = None
placed_in (phase.Putting w k) placed t = None
placed_in (phase.Denied d) placed t = None
placed_in (phase.Numbered n) placed t = None
placed_in phase.Resuming placed t = None
placed_in phase.Ending placed t = None
placed_in phase.Closed placed t = None

abbrev pub located_as : Wish → Option Standing → Phase
located_as w None = phase.Denied error.ThreadNotSuspended
located_as w (Some standing) = phase.Putting w standing

-- the driver says where a thread stands
abbrev pub located_in : Phase → Option Standing → Talk → Option Talk
located_in phase.Greeting standing t = None
located_in phase.Ready standing t = None
located_in phase.Asking standing t = None
located_in (phase.Listing p) standing t = None
located_in (phase.Stopping p) standing t = None
located_in (phase.Suspending p u) standing t = None
located_in (phase.Undoing p u) standing t = None
located_in (phase.Settling p) standing t = None
located_in (phase.Finishing p) standing t = None
located_in phase.Refusing standing t = None
located_in (phase.Placing w) standing t = None
located_in (phase.Locating w) standing t = Some (record t { phase = located_as w standing })
located_in (phase.Putting w k) standing t = None
located_in (phase.Denied d) standing t = None
located_in (phase.Numbered n) standing t = None
located_in phase.Resuming standing t = None
located_in phase.Ending standing t = None
located_in phase.Closed standing t = None
