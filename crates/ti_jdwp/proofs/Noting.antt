-- An event that takes place changes what is kept of events alone.
use Rattle.std.proofs.Common.{◌≡◌, ℕ, Bool, true, false, List, [], ◌∷◌, filter, refl, sym, subst, inl, inr}
use Rattle.ti_jdwp.specs.declared.event.Event.{Event}
use Rattle.ti_jdwp.specs.declared.event.Event.TheVariants as event
use Rattle.ti_jdwp.specs.declared.event.Spot.{Spot}
use Rattle.ti_jdwp.specs.declared.event_text.Occurrence.{Occurrence}
use Rattle.ti_jdwp.specs.declared.stops.Verdict.{Verdict}
use Rattle.ti_jdwp.specs.declared.stops.Verdict.TheVariants as verdict
use Rattle.ti_jdwp.specs.InForce.{Asked, is_told, all_after}
use Rattle.ti_jdwp.specs.Queues.{Queue, with_event, with_loss}
use Rattle.ti_jdwp.specs.Notes.{is_over, queue_with, noted, start_notice, tells_end, winds_up, hears_end, BeginsIn, Begins, DiesIn, Dies, NotesIn, Notes}
use Rattle.ti_jdwp.specs.StopNotes.{after_stop, stop_for, StopsBy, StopsIn, Stops}
use Rattle.ti_jdwp.specs.Talks.{Talk, closing}

pub record Keeps (old new : Talk) : Type 0 where
  pub bytes : new.bytes ≡ old.bytes
  pub first : new.first ≡ old.first
  pub phase : new.phase ≡ old.phase
  pub holds : new.holds ≡ old.holds
  pub notice : new.notice ≡ old.notice
  pub stopped : new.queue.stopped ≡ old.queue.stopped

same_stop : (e : Event) (o : Occurrence) (rs : List Asked) (q : Queue) → (queue_with e o rs q).stopped ≡ q.stopped
same_stop e o [] q = refl
same_stop e o (r ∷ rs) q = refl

as_said : (old new target : Talk) → new ≡ target → Keeps old target → Keeps old new
as_said old new target is h = subst (λ t. Keeps old t) (sym is) h

keeps_in : (b result : Bool) (e : Event) (o : Occurrence) (old new : Talk) → NotesIn b e o old result new → Keeps old new
keeps_in true result e o old new h = as_said old new old h.1 (record { bytes = refl; first = refl; phase = refl; holds = refl; notice = refl; stopped = refl })
keeps_in false true e o old new h = as_said old new (noted e o old) h (record { bytes = refl; first = refl; phase = refl; holds = refl; notice = refl; stopped = same_stop e o (filter (is_told e) old.requests.list) old.queue })
keeps_in false false e o old new h = elim h [
  | inl a ↦ as_said old new (record old { queue = with_loss old.queue }) a (record { bytes = refl; first = refl; phase = refl; holds = refl; notice = refl; stopped = refl })
  | inr a ↦ as_said old new (record old { requests = all_after e old.requests; queue = with_loss old.queue }) a (record { bytes = refl; first = refl; phase = refl; holds = refl; notice = refl; stopped = refl })
]

pub keeps : (e : Event) (o : Occurrence) (result : Bool) (old new : Talk) → Notes e o old result new → Keeps old new
keeps e o result old new h = keeps_in (is_over old.phase) result e o old new h

begins_keep_in : (b result : Bool) (t : ℕ) (old new : Talk) → BeginsIn b t old result new → Keeps old new
begins_keep_in true result t old new h = as_said old new old h.1 (record { bytes = refl; first = refl; phase = refl; holds = refl; notice = refl; stopped = refl })
begins_keep_in false true t old new h = as_said old new (record old { queue = with_event old.queue (start_notice t) }) h (record { bytes = refl; first = refl; phase = refl; holds = refl; notice = refl; stopped = refl })
begins_keep_in false false t old new h = as_said old new (record old { queue = with_loss old.queue }) h (record { bytes = refl; first = refl; phase = refl; holds = refl; notice = refl; stopped = refl })

pub begins_keep : (t : ℕ) (result : Bool) (old new : Talk) → Begins t old result new → Keeps old new
begins_keep t result old new h = begins_keep_in (is_over old.phase) result t old new h

stops_keep_by : (v : Verdict) (s : Spot) (old new : Talk) → StopsBy v s old new → Keeps old new
stops_keep_by verdict.Told s old new h =
    as_said old new (record old { requests = after_stop s old.requests; queue = with_event old.queue (stop_for s old.requests) }) h.1 (record { bytes = refl; first = refl; phase = refl; holds = refl; notice = refl; stopped = refl })
stops_keep_by verdict.Passed s old new h = elim h [
  | inl a ↦ as_said old new (record old { requests = after_stop s old.requests }) a.2 (record { bytes = refl; first = refl; phase = refl; holds = refl; notice = refl; stopped = refl })
  | inr a ↦ as_said old new (record old { requests = new.requests; queue = with_loss old.queue }) a.1 (record { bytes = refl; first = refl; phase = refl; holds = refl; notice = refl; stopped = refl })
]
stops_keep_by (verdict.Deeper n) s old new h = as_said old new (record old { requests = after_stop s old.requests }) h.2 (record { bytes = refl; first = refl; phase = refl; holds = refl; notice = refl; stopped = refl })

stops_keep_in : (b : Bool) (s : Spot) (old new : Talk) (v : Verdict) → StopsIn b s old v new → Keeps old new
stops_keep_in true s old new v h = as_said old new old h.1 (record { bytes = refl; first = refl; phase = refl; holds = refl; notice = refl; stopped = refl })
stops_keep_in false s old new v h = stops_keep_by v s old new h

pub stops_keep : (s : Spot) (v : Verdict) (old new : Talk) → Stops s old v new → Keeps old new
stops_keep s v old new h = stops_keep_in (is_over old.phase) s old new v h

-- what the end of the runtime leaves
pub record Ends (old new : Talk) : Type 0 where
  pub phase : new.phase ≡ closing old.phase
  pub holds : new.holds ≡ old.holds
  pub notice : new.notice ≡ old.notice
  pub stopped : new.queue.stopped ≡ old.queue.stopped
  pub waiting : new.queue.waiting ≡ old.queue.waiting

ends_as : (old new target : Talk) → new ≡ target → Ends old target → Ends old new
ends_as old new target is h = subst (λ t. Ends old t) (sym is) h

dies_ends_in : (b result : Bool) (old new : Talk) → DiesIn b old result new → Ends old new
dies_ends_in true true old new h = ends_as old new (tells_end (winds_up old)) h (record { phase = refl; holds = refl; notice = refl; stopped = refl; waiting = refl })
dies_ends_in true false old new h = elim h [
  | inl a ↦ ends_as old new (record (winds_up old) { queue = with_loss old.queue }) a (record { phase = refl; holds = refl; notice = refl; stopped = refl; waiting = refl })
  | inr a ↦ ends_as old new (record (winds_up old) { requests = all_after event.VmDeath old.requests; queue = with_loss old.queue }) a (record { phase = refl; holds = refl; notice = refl; stopped = refl; waiting = refl })
]
dies_ends_in false result old new h = ends_as old new (winds_up old) h.1 (record { phase = refl; holds = refl; notice = refl; stopped = refl; waiting = refl })

pub dies_ends : (result : Bool) (old new : Talk) → Dies old result new → Ends old new
dies_ends result old new h = dies_ends_in (hears_end old.phase) result old new h
