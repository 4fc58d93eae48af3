-- Threads of a service that start, end and are given back.
use Rattle.std.specs.Prelude.{ℕ, zero, suc, ◌≡◌, ◌+◌, ◌<◌, true, length, List, [], ◌∷◌}
use Rattle.ti_types.specs.declared.entry.Entry.TheVariants as entry
use Rattle.ti_types.specs.declared.error.TiError.{TiError}
use Rattle.ti_types.specs.declared.error.TiError.TheVariants.{Barred, Full}
use Rattle.ti_types.specs.declared.numbers.ThreadNo.{ThreadNo}
use Rattle.ti_cell.specs.Seats.{Sitting}
use Rattle.ti_handshake.specs.Thread.{Runner}
use Rattle.ti_handshake.specs.Tries.{StaysBarred}
use Rattle.ti_roster.specs.declared.coming.Coming.{Coming}
use Rattle.ti_roster.specs.declared.coming.Coming.TheVariants.{Started, Ended}
use Rattle.ti_roster.specs.declared.view.RosterView.{RosterView}
use Rattle.ti_roster.specs.Log.{is_live, with_item}
use Rattle.ti_roster.specs.Roster.{IsListed, most_items}
use Rattle.ti_roster.specs.Starting.{HasEnded, HasStarted, RefusesEnd, RefusesStart, leave_refusal, leaving, number_of}
use Rattle.ti_service.specs.Service.{Holds, Looks, roster_of, roster_seen}

-- One hold, in which a thread that was there and had not started has started. That is noted by the same hold
pub record StartsThread (old new : RosterView) (fresh : Sitting) (running : Runner) : Type 0 where
  pub found : List Coming
  pub hold : Holds old new found (Started (number_of fresh) ∷ [])
  pub started : HasStarted (roster_of old found) (with_item (roster_of old found) (Started (number_of fresh))) fresh running

-- One hold, in which it has not, and nothing was noted
pub record DoesNotStart (old new : RosterView) (fresh back : Sitting) (e : TiError) : Type 0 where
  pub looks : Looks old new
  pub why : RefusesStart (roster_seen new) fresh back e

-- One hold, in which a thread that was there and alive has ended. That is noted by the same hold
pub record EndsThread (old new : RosterView) (running : Runner) (over : Sitting) : Type 0 where
  pub found : List Coming
  pub hold : Holds old new found (Ended running.view.subject.thread ∷ [])
  pub ended : HasEnded (roster_of old found) (with_item (roster_of old found) (Ended running.view.subject.thread)) running over

-- One hold, in which it has not, and nothing was noted
pub record DoesNotEnd (old new : RosterView) (t : ThreadNo) (e : TiError) : Type 0 where
  pub looks : Looks old new
  pub why : RefusesEnd (roster_seen new) t e

-- so many holds that added nothing
abbrev pub LooksTimes : ℕ → RosterView → RosterView → Type 0
LooksTimes zero old new = new ≡ old
LooksTimes (suc n) old new = (mid : RosterView) × LooksTimes n old mid × Looks mid new

-- some holds that added nothing, and then this
pub record WaitsThen (old : RosterView) (P : RosterView → Type 0) : Type 0 where
  pub times : ℕ
  pub mid : RosterView
  pub looks : LooksTimes times old mid
  pub then : P mid

-- so many times a thread was not started, since it was barred
abbrev pub StaysTimes : ℕ → Sitting → Sitting → Type 0
StaysTimes zero old new = new ≡ old
StaysTimes (suc n) old new = (mid : Sitting) × StaysTimes n old mid × (new.cell ≡ mid.cell) × StaysBarred entry.Start mid new Barred

-- some holds that added nothing, some of which found the thread barred, and then this
pub record WaitsToStart (old : RosterView) (fresh : Sitting) (P : RosterView → Sitting → Type 0) : Type 0 where
  pub looked : ℕ
  pub mid : RosterView
  pub looks : LooksTimes looked old mid
  pub barred : ℕ
  pub thread : Sitting
  pub stays : StaysTimes barred fresh thread
  pub then : P mid thread

-- A thread that was there was given back: the one that came to this service under the number. If it was alive, it has ended first
pub record Detaches (old new : RosterView) (t : ThreadNo) : Type 0 where
  pub found : List Coming
  pub hold : Holds old new found (leaving t found)
  pub there : is_live t found ≡ true
  pub listed : IsListed (roster_of old found) t

-- it was not given back, for this reason
pub record RefusesDetach (old new : RosterView) (t : ThreadNo) (e : TiError) : Type 0 where
  pub looks : Looks old new
  pub why : e ≡ leave_refusal (roster_seen new) t
  pub limit : e ≡ Full → most_items < length new.seen + length (leaving t new.seen)
