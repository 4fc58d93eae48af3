-- A thread as its runtime holds it, and the frames of it that were popped.
use Rattle.std.specs.Prelude.{ℕ, ◌≡◌, ◌+◌, ◌-◌, ◌^◌, ◌<◌, true, min, List, length, Result, Ok, Err}
use Rattle.ti_types.specs.declared.error.TiError.{TiError}
use Rattle.ti_types.specs.declared.error.TiError.TheVariants.{NotRunning}
use Rattle.ti_types.specs.declared.place.Frame.{Frame}
use Rattle.ti_types.specs.declared.state.Safe.TheVariants.{Native as IntoNative, Blocked as IntoBlocked}
use Rattle.ti_cell.specs.Seats.{Sitting}
use Rattle.ti_thread.specs.AnyThread.{is_running}
use Rattle.ti_thread.specs.Changes.{SetsFrames}
use Rattle.ti_thread.specs.Turns.{Starts, Polls, HandsOver, Returns, Ends}
use Rattle.ti_thread.specs.declared.any_thread.AnyThread.{AnyThread}
use Rattle.ti_thread.specs.declared.any_thread.AnyThread.TheVariants.{Fresh, Running, Safe, Ended}
use Rattle.ti_thread.specs.declared.any_thread.TurnOutcome.{TurnOutcome}
use Rattle.ti_thread.specs.declared.any_thread.TurnOutcome.TheVariants.{Done, Held, Popped, Refused}
use Rattle.ti_thread.specs.declared.host_thread.HostThread.{HostThread}
use Rattle.ti_thread.specs.declared.host_thread.Pops.{Pops}
use Rattle.ti_thread.specs.declared.turn.Turn.{Turn}
use Rattle.ti_thread.specs.declared.turn.Turn.TheVariants as turn

-- what each turn does to a thread
abbrev pub Takes : Turn → AnyThread → AnyThread → TurnOutcome → Type 0
Takes turn.Start = Starts
Takes turn.Poll = Polls
Takes turn.Native = HandsOver IntoNative
Takes (turn.Block k) = HandsOver (IntoBlocked k)
Takes turn.Back = Returns
Takes turn.End = Ends

-- how many frames a thread has, or another number if it does not run
abbrev pub count_or : AnyThread → ℕ → ℕ
count_or (Running r) n = length r.frames
count_or (Fresh s) n = n
count_or (Safe s) n = n
count_or (Ended s) n = n

abbrev pub CountsFrames : AnyThread → Result ℕ TiError → Type 0
CountsFrames (Running r) (Ok n) = n ≡ length r.frames
CountsFrames (Running r) (Err e) = ⊥
CountsFrames (Fresh s) counted = counted ≡ Err NotRunning
CountsFrames (Safe s) counted = counted ≡ Err NotRunning
CountsFrames (Ended s) counted = counted ≡ Err NotRunning

-- a thread with these pops
abbrev pub host_of : AnyThread → Pops → HostThread
host_of t p = record { thread = t; pops = p }

-- a thread that has not started
abbrev pub new_host : Sitting → HostThread
new_host s = record { thread = Fresh s; pops = record { given = 0; popped = 0 } }

-- the same with another thread, or with another number of pops
abbrev pub with_thread : HostThread → AnyThread → HostThread
with_thread h t = record { thread = t; pops = h.pops }

abbrev pub with_popped : HostThread → ℕ → HostThread
with_popped h n = record { thread = h.thread; pops = record { given = h.pops.given; popped = n } }

-- how many frames it hands over, or handed over
abbrev pub given_by : HostThread → ℕ
given_by h = count_or h.thread h.pops.given

-- how many of these did not come back. None is missing while they are away
abbrev pub missing : HostThread → AnyThread → ℕ
missing h t = given_by h - count_or t (given_by h)

-- the pops with more of them, as far as numbers go
abbrev pub pops_and : ℕ → ℕ → ℕ
pops_and popped more = min (popped + more) (2 ^ 64 - 1)

-- the pops of a thread that is about to take its turn: so many frames it hands over, or handed over
abbrev pub pops_before : HostThread → Pops
pops_before h = record { given = given_by h; popped = h.pops.popped }

-- the pops after it: those of the frames that are missing are added
abbrev pub pops_after : Pops → AnyThread → Pops
pops_after p t = record { given = p.given; popped = pops_and p.popped (p.given - count_or t p.given) }

-- The thread takes its turn, and the frames that are missing then are counted as popped
abbrev pub TakesTurn : Turn → HostThread → HostThread → TurnOutcome → Type 0
TakesTurn turn old new told = Takes turn old.thread new.thread told × (new.pops.given ≡ given_by old) × (new.pops.popped ≡ pops_and old.pops.popped (missing old new.thread))

-- a call of the thread alone, which says nothing of pops
abbrev pub Keeps : (AnyThread → AnyThread → TurnOutcome → Type 0) → HostThread → HostThread → TurnOutcome → Type 0
Keeps R old new told = (new ≡ with_thread old new.thread) × R old.thread new.thread told

-- all frames are set, if the runtime has taken note of each pop
abbrev pub SetsNoted : List Frame → HostThread → HostThread → TurnOutcome → Type 0
SetsNoted frames old new told = Keeps (SetsFrames frames) old new told × (is_running old.thread ≡ true → old.pops.popped ≡ 0)

-- otherwise nothing changes
abbrev pub SetsUnlessPopped : List Frame → HostThread → HostThread → TurnOutcome → Type 0
SetsUnlessPopped frames old new Popped = (new ≡ old) × (is_running old.thread ≡ true) × (0 < old.pops.popped)
SetsUnlessPopped frames old new Done = SetsNoted frames old new Done
SetsUnlessPopped frames old new Held = SetsNoted frames old new Held
SetsUnlessPopped frames old new (Refused e) = SetsNoted frames old new (Refused e)
