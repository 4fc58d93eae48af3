-- What becomes of a thread that stops while a debugger is there.
use Rattle.std.specs.Prelude.{◌≡◌, ℕ, Bool, true, false, not, ◌&&◌, ◌==◌, List, length, ◌++◌, map, filter, ◌⊎◌, Option, Some, None}
use Rattle.ti_jdwp.specs.declared.event.Event.TheVariants as event
use Rattle.ti_jdwp.specs.declared.event.Spot.{Spot}
use Rattle.ti_jdwp.specs.declared.event_text.Occurrence.{Occurrence}
use Rattle.ti_jdwp.specs.declared.event_text.Occurrence.TheVariants as occurrence
use Rattle.ti_jdwp.specs.declared.notice.Notice.{Notice}
use Rattle.ti_jdwp.specs.declared.request.Policy.{Policy}
use Rattle.ti_jdwp.specs.declared.stops.Verdict.{Verdict}
use Rattle.ti_jdwp.specs.declared.stops.Verdict.TheVariants as verdict
use Rattle.ti_jdwp.specs.Composites.{composite}
use Rattle.ti_jdwp.specs.InForce.{Asked, AllAsked, is_told, all_after, stronger, strongest, deeper}
use Rattle.ti_jdwp.specs.Notes.{is_over, row_of}
use Rattle.ti_jdwp.specs.Queues.{with_event, with_loss}
use Rattle.ti_jdwp.specs.Talks.{Talk}

abbrev pub numbers_of : List Asked → List ℕ
numbers_of rs = map (λ r. r.number) rs

-- the requests for steps that are told of a stop
abbrev pub steps_told : Spot → AllAsked → List Asked
steps_told s all = filter (is_told (event.SingleStep s)) all.list

-- after them those for breakpoints
abbrev pub breakpoints_told : Spot → AllAsked → List Asked
breakpoints_told s all = filter (is_told (event.Breakpoint s)) (all_after (event.SingleStep s) all).list

abbrev pub after_stop : Spot → AllAsked → AllAsked
after_stop s all = all_after (event.Breakpoint s) (all_after (event.SingleStep s) all)

-- a stop counted for none of the requests, or for those for steps
abbrev pub IsPartlyTold : Spot → AllAsked → AllAsked → Type 0
IsPartlyTold s old new = (new ≡ old) ⊎ (new ≡ all_after (event.SingleStep s) old)

abbrev pub step_at : Spot → Occurrence
step_at s = occurrence.SingleStep s.thread s.class s.method s.index

abbrev pub breakpoint_at : Spot → Occurrence
breakpoint_at s = occurrence.Breakpoint s.thread s.class s.method s.index

-- one packet: the steps that end, and then the breakpoints
abbrev pub stop_with : Spot → Policy → List ℕ → List ℕ → Notice
stop_with s policy steps breakpoints = record {
  policy = policy;
  thread = s.thread;
  stop = true;
  body = composite policy (map (row_of (step_at s)) steps ++ map (row_of (breakpoint_at s)) breakpoints);
}

-- with the strongest policy of its requests
abbrev pub stop_for : Spot → AllAsked → Notice
stop_for s all =
    stop_with s (stronger (strongest (steps_told s all)) (strongest (breakpoints_told s all))) (numbers_of (steps_told s all)) (numbers_of (breakpoints_told s all))

-- some request is told of a stop
abbrev pub has_told : Spot → AllAsked → Bool
has_told s all = not ((length (numbers_of (steps_told s all)) == 0) && (length (numbers_of (breakpoints_told s all)) == 0))

-- no request is told of a stop, so that the thread goes on
abbrev pub PassesBy : Option ℕ → Spot → Talk → Talk → Type 0
PassesBy frames s old new =
    (has_told s old.requests ≡ false) × (deeper s.thread s.frames new.requests.list ≡ frames) × (new ≡ record old { requests = after_stop s old.requests })

-- a stop is lost: before all were told of it, or after that if it meets a request
abbrev pub LosesStop : Spot → Talk → Talk → Type 0
LosesStop s old new =
    (IsPartlyTold s old.requests new.requests ⊎ ((has_told s old.requests ≡ true) × (new.requests ≡ after_stop s old.requests)))
    × (new ≡ record old { requests = new.requests; queue = with_loss old.queue })

abbrev pub StopsBy : Verdict → Spot → Talk → Talk → Type 0
StopsBy verdict.Told s old new =
    (has_told s old.requests ≡ true) × (new ≡ record old { requests = after_stop s old.requests; queue = with_event old.queue (stop_for s old.requests) })
StopsBy verdict.Passed s old new = PassesBy None s old new ⊎ LosesStop s old new
StopsBy (verdict.Deeper n) s old new = PassesBy (Some n) s old new

abbrev pub StopsIn : Bool → Spot → Talk → Verdict → Talk → Type 0
StopsIn true s old result new = (result ≡ verdict.Passed) × (new ≡ old)
StopsIn false s old result new = StopsBy result s old new

-- A thread stopped here: it waits until those are told who asked for it, or goes on.
abbrev pub Stops : Spot → Talk → Verdict → Talk → Type 0
Stops s old result new = StopsIn (is_over old.phase) s old result new
