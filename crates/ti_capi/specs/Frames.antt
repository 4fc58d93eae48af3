-- Frames that a runtime gives, and the end of a thread's handle.
use Rattle.std.specs.Prelude.{ℕ, ◌≡◌, ◌⊎◌, true, false, min, List, length, map, take, Option, Some, None}
use Rattle.ti_types.specs.TiError.{number_of}
use Rattle.ti_types.specs.declared.error.TiError.{TiError}
use Rattle.ti_types.specs.declared.error.TiError.TheVariants.{Busy, IllegalArgument, NotRunning, OutOfMemory}
use Rattle.ti_service.specs.Starting.{Detaches as GoesBack, RefusesDetach}
use Rattle.ti_thread.specs.AnyThread.{is_running, number_in, may_leave}
use Rattle.ti_thread.specs.Hosts.{SetsUnlessPopped}
use Rattle.ti_thread.specs.declared.host_thread.HostThread.{HostThread}
use Rattle.ti_thread.specs.declared.any_thread.TurnOutcome.{TurnOutcome}
use Rattle.ti_capi.specs.declared.held.HeldThread.{HeldThread}
use Rattle.ti_capi.specs.declared.values.CqFrame.{CqFrame}
use Rattle.ti_capi.specs.Codes.{code_told, misused}
use Rattle.ti_capi.specs.Handles.{Handle, thread_in, with_held_thread}
use Rattle.ti_capi.specs.Values.{are_frames, frame_of}

-- The thread of a box has other frames, or why it does not, and is as it was
pub data SetsFor (frames : List CqFrame) (t n : HostThread) (code : ℕ) : Type 0 where
  NotRuns : code ≡ number_of NotRunning → is_running t.thread ≡ false → n ≡ t → SetsFor frames t n code
  NoFrames : code ≡ number_of IllegalArgument → is_running t.thread ≡ true → are_frames frames ≡ false → n ≡ t → SetsFor frames t n code
  NoRoom : code ≡ number_of OutOfMemory → is_running t.thread ≡ true → n ≡ t → SetsFor frames t n code
  FramesSet : (told : TurnOutcome) → are_frames frames ≡ true → SetsUnlessPopped (map frame_of frames) t n told → code ≡ code_told told → SetsFor frames t n code

abbrev pub SetsTo : Option HostThread → Option HostThread → List CqFrame → HeldThread → HeldThread → ℕ → Type 0
SetsTo (Some t) (Some n) frames old new code = (new.service ≡ old.service) × SetsFor frames t n code
SetsTo (Some t) None frames old new code = ⊥
SetsTo None n frames old new code = (new ≡ old) × (code ≡ misused)

abbrev pub SetsIn : List CqFrame → HeldThread → HeldThread → ℕ → Type 0
SetsIn frames old new code = SetsTo old.thread new.thread frames old new code

abbrev pub SetsBehind : Option HeldThread → Option HeldThread → List CqFrame → Handle → Handle → ℕ → Type 0
SetsBehind (Some h) (Some n) frames old new code = (new ≡ with_held_thread old n) × SetsIn frames h n code
SetsBehind (Some h) None frames old new code = ⊥
SetsBehind None n frames old new code = (new ≡ old) × (code ≡ misused)

-- the thread behind a handle has other frames
abbrev pub Sets : List CqFrame → Handle → Handle → ℕ → Type 0
Sets frames old new code = SetsBehind (thread_in old) (thread_in new) frames old new code

-- how many of these frames the thread of a box may have
abbrev pub most_of : HeldThread → List CqFrame → ℕ
most_of h frames = min (length frames) h.service.view.limits.depth

-- a number is written only with the code 0
abbrev pub IsTold : ℕ → ℕ → ℕ → ℕ → Type 0
IsTold n n0 n1 code = (code ≡ 0 → n1 ≡ n) × ((code ≡ 0 → ⊥) → n1 ≡ n0)

-- the newest of these are the frames of the thread of a box, and it is told how many
abbrev pub SetsNewestIn : List CqFrame → HeldThread → HeldThread → ℕ → ℕ → ℕ → Type 0
SetsNewestIn frames old new n0 n1 code = SetsIn (take (most_of old frames) frames) old new code × IsTold (most_of old frames) n0 n1 code

abbrev pub SetsNewestBehind : Option HeldThread → Option HeldThread → List CqFrame → Handle → Handle → ℕ → ℕ → ℕ → Type 0
SetsNewestBehind (Some h) (Some n) frames old new n0 n1 code = (new ≡ with_held_thread old n) × SetsNewestIn frames h n n0 n1 code
SetsNewestBehind (Some h) None frames old new n0 n1 code = ⊥
SetsNewestBehind None n frames old new n0 n1 code = (new ≡ old) × (n1 ≡ n0) × (code ≡ misused)

-- the same of the thread behind a handle
abbrev pub SetsNewest : List CqFrame → Handle → Handle → ℕ → ℕ → ℕ → Type 0
SetsNewest frames old new n0 n1 code = SetsNewestBehind (thread_in old) (thread_in new) frames old new n0 n1 code

-- A thread is given back, if it has ended or never started (`ti_service`, `Service::detach_thread_now`, `withdraw_thread_now`)
pub data GivesBackFor (t : HostThread) (old new : HeldThread) (code : ℕ) : Type 0 where
  Gone : code ≡ 0 → may_leave t.thread ≡ true → new.thread ≡ None → new.service.cell ≡ old.service.cell → GoesBack old.service.view new.service.view (number_in t.thread) → GivesBackFor t old new code
  NotGone : (e : TiError) → code ≡ number_of e → may_leave t.thread ≡ true → new.thread ≡ Some t → new.service.cell ≡ old.service.cell
      → RefusesDetach old.service.view new.service.view (number_in t.thread) e ⊎ ((e ≡ Busy) × (new.service ≡ old.service)) → GivesBackFor t old new code
  IsAlive : code ≡ misused → may_leave t.thread ≡ false → new ≡ old → GivesBackFor t old new code

abbrev pub GivesBackTo : Option HostThread → HeldThread → HeldThread → ℕ → Type 0
GivesBackTo (Some t) old new code = GivesBackFor t old new code
GivesBackTo None old new code = (new ≡ old) × (code ≡ misused)

abbrev pub GivesBack : HeldThread → HeldThread → ℕ → Type 0
GivesBack old new code = GivesBackTo old.thread old new code

-- the same behind a handle, which is empty then
pub data DetachesFor (h : HeldThread) (new : Handle) (code : ℕ) : Type 0 where
  Detached : (n : HeldThread) → code ≡ 0 → new.kind ≡ 0 → GivesBack h n 0 → DetachesFor h new code
  StaysHeld : (n : HeldThread) → (code ≡ 0 → ⊥) → thread_in new ≡ Some n → GivesBack h n code → DetachesFor h new code

abbrev pub Detaches : Option HeldThread → Handle → Handle → ℕ → Type 0
Detaches (Some h) old new code = DetachesFor h new code
Detaches None old new code = (new ≡ old) × (code ≡ misused)
