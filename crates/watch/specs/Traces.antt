-- A thread that is traced while it is suspended.
use Rattle.std.specs.Prelude.{ℤ, pos, ◌≡◌, Bool, true, false, List}
use Rattle.std.specs.List.{list_any}
use Rattle.ti_types.specs.declared.entry.Entry.{Entry}
use Rattle.ti_types.specs.declared.entry.Entry.TheVariants.{Asked}
use Rattle.ti_types.specs.declared.answer.Answer.TheVariants as answer
use Rattle.ti_types.specs.declared.call.Call.{Call}
use Rattle.ti_types.specs.declared.call.Call.TheVariants.{Resume, Pop, Suspend, Trace}
use Rattle.ti_types.specs.declared.error.TiError.{TiError}
use Rattle.ti_types.specs.declared.numbers.ThreadNo.{ThreadNo}
use Rattle.ti_types.specs.declared.place.Frame.{Frame}
use Rattle.ti_types.specs.Frames.{bare_trace}
use Rattle.ti_agent.specs.Asks.{IsCalled}
use Rattle.ti_agent.specs.Env.{Environment}
use Rattle.ti_replay.specs.Legal.{asked_by}
use Rattle.ti_replay.specs.Suspensions.{suspending}
use Rattle.ti_handshake.specs.Desk.{DeskState}

-- a call that may change the frames of a suspended thread, or let it go
abbrev pub is_undoing : Entry → Bool
is_undoing (Asked env number Resume) = true
is_undoing (Asked env number Pop) = true
is_undoing _ = false

-- in what its desk sees after the suspension that the environment asks next, nobody makes such a call
abbrev pub IsLeftAlone : DeskState → DeskState → Type 0
IsLeftAlone old new =
    (before more : List Entry) → new.view.seen ≡ suspending before old.env (asked_by old.env old.view.mine) more → list_any is_undoing more ≡ false

-- a trace of the newest frames
abbrev pub newest : ℤ → Call
newest max_count = Trace (pos 0) max_count

-- the thread was suspended, traced, and traced again
pub record TakesTwo (old new : Environment) (t : ThreadNo) (max_count : ℤ) (f g : List Frame) : Type 0 where
  pub mid : Environment
  pub last : Environment
  pub suspended : IsCalled old mid t Suspend answer.Done
  pub first : IsCalled mid last t (newest max_count) (answer.Trace (bare_trace f))
  pub second : IsCalled last new t (newest max_count) (answer.Trace (bare_trace g))

-- one of these calls was refused, and none was made after it
pub data RefusesTwo (old new : Environment) (t : ThreadNo) (max_count : ℤ) (e : TiError) : Type 0 where
  NotSuspended : IsCalled old new t Suspend (answer.Refused e) → RefusesTwo old new t max_count e
  NotTraced : (mid : Environment) → IsCalled old mid t Suspend answer.Done → IsCalled mid new t (newest max_count) (answer.Refused e) → RefusesTwo old new t max_count e
  NotTwice : (mid last : Environment) (f : List Frame) → IsCalled old mid t Suspend answer.Done → IsCalled mid last t (newest max_count) (answer.Trace (bare_trace f)) → IsCalled last new t (newest max_count) (answer.Refused e)
      → RefusesTwo old new t max_count e
