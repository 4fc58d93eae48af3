-- Threads that start, end and are given back.
use Rattle.std.specs.Prelude.{◌≡◌, ◌<◌, ◌≤◌, Bool, true, false, if◌then◌else◌, length, List, [], ◌∷◌, ◌++◌, None}
use Rattle.ti_types.specs.declared.entry.Entry.TheVariants as entry
use Rattle.ti_types.specs.declared.error.TiError.{TiError}
use Rattle.ti_types.specs.declared.error.TiError.TheVariants.{Busy, Full, NotNew, NotRunning}
use Rattle.ti_types.specs.declared.numbers.ThreadNo.{ThreadNo}
use Rattle.ti_replay.specs.LateTickets.{steps_of}
use Rattle.ti_cell.specs.Seats.{Sitting}
use Rattle.ti_handshake.specs.Call.{Holds, found}
use Rattle.ti_handshake.specs.Thread.{Runner, refused_at}
use Rattle.ti_handshake.specs.Tries.{StaysBarred}
use Rattle.ti_roster.specs.declared.coming.Coming.{Coming}
use Rattle.ti_roster.specs.declared.coming.Coming.TheVariants.{Started, Ended, Left}
use Rattle.ti_roster.specs.Log.{Log, is_live, with_item}
use Rattle.ti_roster.specs.Roster.{IsListed, missing_or, most_items}
use Rattle.ti_roster.specs.Stages.{is_alive, is_new, stage_of}

-- the number of a thread
abbrev pub number_of : Sitting → ThreadNo
number_of s = s.view.subject.thread

-- A thread has started in one hold of its cell (`ti_handshake`, `Fresh::start_now`)
pub record StartsAs (fresh : Sitting) (running : Runner) : Type 0 where
  pub cell : running.cell ≡ fresh.cell
  pub hold : Holds fresh.view running.view (entry.Start ∷ [])
  pub when : refused_at fresh.view.subject.limits (found fresh.view running.view) entry.Start ≡ None
  pub steps : running.steps ≡ []

-- a thread that is there, and has not started, has started
pub record HasStarted (old new : Log) (fresh : Sitting) (running : Runner) : Type 0 where
  pub there : IsListed old (number_of fresh)
  pub was_new : is_new (stage_of (number_of fresh) old.items) ≡ true
  pub starts : StartsAs fresh running
  pub new_is : new ≡ with_item old (Started (number_of fresh))

-- why a step of a thread is not noted: it is not there, it has not come so far or has come further, or nothing more may happen
abbrev pub step_refusal : Bool → TiError → Log → ThreadNo → TiError
step_refusal fits unfit r t = missing_or (if fits then Full else unfit) r t

abbrev pub start_refusal : Log → ThreadNo → TiError
start_refusal r t = step_refusal (is_new (stage_of t r.items)) NotNew r t

abbrev pub end_refusal : Log → ThreadNo → TiError
end_refusal r t = step_refusal (is_alive (stage_of t r.items)) NotRunning r t

-- a step of the thread would be noted
pub record MayStep (r : Log) (t : ThreadNo) (fits : Bool) : Type 0 where
  pub there : is_live t r.items ≡ true
  pub fits_is : fits ≡ true
  pub room : length r.items < most_items

-- Why a thread has not started, and what it is then. It is not new here, or nothing more may happen; or its cell was in use, or it is
-- barred
pub data RefusesStart (r : Log) (fresh back : Sitting) (e : TiError) : Type 0 where
  NotHere : e ≡ start_refusal r (number_of fresh) → (e ≡ Full → most_items ≤ length r.items) → back ≡ fresh → RefusesStart r fresh back e
  InUse : MayStep r (number_of fresh) (is_new (stage_of (number_of fresh) r.items)) → e ≡ Busy → back ≡ fresh → RefusesStart r fresh back e
  IsBarred : MayStep r (number_of fresh) (is_new (stage_of (number_of fresh) r.items)) → back.cell ≡ fresh.cell → StaysBarred entry.Start fresh back e → RefusesStart r fresh back e

-- a thread that is there, and is alive, has ended
pub record HasEnded (old new : Log) (running : Runner) (ended : Sitting) : Type 0 where
  pub there : IsListed old running.view.subject.thread
  pub was_alive : is_alive (stage_of running.view.subject.thread old.items) ≡ true
  pub cell : ended.cell ≡ running.cell
  pub hold : Holds running.view ended.view (steps_of running.steps ++ entry.End ∷ [])
  pub new_is : new ≡ with_item old (Ended running.view.subject.thread)

-- why it has not
pub data RefusesEnd (r : Log) (t : ThreadNo) (e : TiError) : Type 0 where
  EndNotHere : e ≡ end_refusal r t → (e ≡ Full → most_items ≤ length r.items) → RefusesEnd r t e
  EndInUse : MayStep r t (is_alive (stage_of t r.items)) → e ≡ Busy → RefusesEnd r t e

-- what is noted of a thread that is given back: that it has ended, if it is alive, and that it is there no more
abbrev pub leaving_from : Bool → ThreadNo → List Coming
leaving_from true t = Ended t ∷ Left t ∷ []
leaving_from false t = Left t ∷ []

abbrev pub leaving : ThreadNo → List Coming → List Coming
leaving t log = leaving_from (is_alive (stage_of t log)) t

-- why a thread is not given back
abbrev pub leave_refusal : Log → ThreadNo → TiError
leave_refusal r t = missing_or Full r t
