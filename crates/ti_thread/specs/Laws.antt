-- No frame comes back to a thread that it did not hand over.
use Rattle.std.specs.Prelude.{ℕ, ◌≡◌, ◌≤◌, [], length}
use Rattle.ti_replay.specs.Makers.{made_by}
use Rattle.ti_replay.specs.View.{view}
use Rattle.ti_cell.specs.declared.view.View.{View}
use Rattle.ti_cell.specs.Seats.{Sitting}
use Rattle.ti_handshake.specs.Thread.{IsRunning}
use Rattle.ti_thread.specs.Hosts.{TakesTurn, count_or, given_by, new_host}
use Rattle.ti_thread.specs.declared.any_thread.AnyThread.{AnyThread}
use Rattle.ti_thread.specs.declared.any_thread.AnyThread.TheVariants.{Fresh, Running, Safe, Ended}
use Rattle.ti_thread.specs.declared.any_thread.TurnOutcome.{TurnOutcome}
use Rattle.ti_thread.specs.declared.host_thread.HostThread.{HostThread}
use Rattle.ti_thread.specs.declared.turn.Turn.{Turn}

-- The seat of a thread that does not run: it is the owner's, and what it has seen leaves at most this many frames
pub record LeavesAtMost (n : ℕ) (v : View) : Type 0 where
  pub owner : v.number ≡ 0
  pub whole : v.mine ≡ made_by 0 v.seen
  pub few : length (view v.subject.limits v.seen).frames ≤ n

-- a thread has, or left behind, at most this many frames
abbrev pub HasAtMost : ℕ → AnyThread → Type 0
HasAtMost n (Fresh s) = LeavesAtMost n s.view
HasAtMost n (Running r) = IsRunning r × (length r.frames ≤ n)
HasAtMost n (Safe s) = LeavesAtMost n s.view
HasAtMost n (Ended s) = Unit {0}

-- what is always true of a running thread (`Running::facts`)
abbrev pub IsWell : AnyThread → Type 0
IsWell (Running r) = IsRunning r
IsWell (Fresh s) = Unit {0}
IsWell (Safe s) = Unit {0}
IsWell (Ended s) = Unit {0}

-- a thread has at most the frames that it counts as handed over
abbrev pub IsCounted : HostThread → Type 0
IsCounted h = HasAtMost (given_by h) h.thread

-- So it is from the beginning, and after each turn. No more frames come back than were handed over, and the difference is how
-- many are missing
abbrev pub NewIsCounted : Type 0
NewIsCounted = (s : Sitting) → s.view.number ≡ 0 → s.view.mine ≡ [] → s.view.mine ≡ made_by 0 s.view.seen → IsCounted (new_host s)

abbrev pub TurnsAreCounted : Type 0
TurnsAreCounted =
    (turn : Turn) (old new : HostThread) (told : TurnOutcome) → IsCounted old → IsWell new.thread → TakesTurn turn old new told
    → IsCounted new × (count_or new.thread (given_by old) ≤ given_by old)
