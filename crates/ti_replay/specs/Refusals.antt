-- Why a thread refuses an event of its own, and a stop, a read or a go.
use Rattle.std.specs.Prelude.{ℕ, ◌+◌, Bool, false, ◌==◌, not, nat_lt, nat_le, Option, Some, None, is_some, is_none}
use Rattle.ti_types.specs.declared.limits.Limits.{Limits}
use Rattle.ti_types.specs.declared.numbers.EnvNo.{EnvNo}
use Rattle.ti_types.specs.declared.state.Safe.TheVariants.{Native, Blocked, AtPoll}
use Rattle.ti_types.specs.declared.entry.Entry.{Entry}
use Rattle.ti_types.specs.declared.entry.Entry.TheVariants.{Start, Own, Hand, Back, End, Stop, Read, Go}
use Rattle.ti_types.specs.declared.error.TiError.{TiError}
use Rattle.ti_types.specs.declared.error.TiError.TheVariants.{NotNew, Barred, NotRunning, NoNativeFrame, OwnSpent, NotSafe, AlreadyStopped, NotStopped, StillRunning}
use Rattle.ti_types.specs.declared.view.ThreadView.{ThreadView}
pub use Rattle.ti_types.specs.Refusing.{or_else, unless}
use Rattle.ti_types.specs.Steps.{newest_is_native, step_refusal}
use Rattle.ti_replay.specs.Answers.{is_running, is_new, is_safe}
use Rattle.ti_replay.specs.View.{is_barred}

abbrev pub is_stopper : Option EnvNo → EnvNo → Bool
is_stopper (Some other) env = other.0 == env.0
is_stopper None env = false

-- why an entry of the thread's own is refused at a view, with these costs so far
abbrev pub own_refusal : Limits → ThreadView → ℕ → Entry → Option TiError
own_refusal limits v own Start = or_else (unless (is_new v.mode) NotNew) (unless (not (is_some v.stopper)) Barred)
own_refusal limits v own (Own step) =
    or_else (unless (is_running v.mode) NotRunning) (or_else (step_refusal limits.depth v.frames step) (unless (nat_lt own limits.own) OwnSpent))
own_refusal limits v own (Hand Native) =
    or_else (unless (is_running v.mode) NotRunning) (or_else (unless (newest_is_native v.frames) NoNativeFrame) (unless (nat_le (own + 2) limits.own) OwnSpent))
own_refusal limits v own (Hand (Blocked kind)) =
    or_else (unless (is_running v.mode) NotRunning) (unless (nat_le (own + 2) limits.own) OwnSpent)
own_refusal limits v own (Hand AtPoll) = unless (is_running v.mode) NotRunning
own_refusal limits v own Back = or_else (unless (is_safe v.mode) NotSafe) (unless (not (is_barred v)) Barred)
own_refusal limits v own End = unless (is_running v.mode) NotRunning
own_refusal limits v own _ = None

-- why the thread refuses an environment's stop, read or go
abbrev pub held_refusal : ThreadView → Entry → Option TiError
held_refusal v (Stop env) = unless (is_none v.stopper) AlreadyStopped
held_refusal v (Read env max_count) = or_else (unless (is_stopper v.stopper env) NotStopped) (unless (not (is_running v.mode)) StillRunning)
held_refusal v (Go env) = unless (is_stopper v.stopper env) NotStopped
held_refusal v _ = None
